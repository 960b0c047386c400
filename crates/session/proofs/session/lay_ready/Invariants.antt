use Rattle.std.proofs.Common.{◌≡◌, ◌++◌, take}
use Rattle.session.proofs.session.lay_ready.Given as goal

abbrev pub invariant-loop-request : goal.invariant-loop-request
invariant-loop-request l = l.ready.items ≡ l.initial.ready.items ++ take l.request-index l.requests
