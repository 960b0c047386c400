use Rattle.std.proofs.Common.{◌≡◌, [], replicate}
use Rattle.dialogue_sched.proofs.shares.Shares.new.Given as goal

abbrev pub invariant-loop : goal.invariant-loop
invariant-loop l = l.list.items ≡ replicate l.counter []
