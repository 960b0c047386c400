use Rattle.std.proofs.Common.{◌≡◌, take}
use Rattle.expect_core.proofs.request.Requests.copied.Given as goal

abbrev pub invariant-loop-request : goal.invariant-loop-request
invariant-loop-request l = l.made ≡ take l.request-index l.self
