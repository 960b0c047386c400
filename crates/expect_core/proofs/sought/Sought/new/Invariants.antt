use Rattle.std.proofs.Common.{◌≡◌, replicate}
use Rattle.expect_core.proofs.sought.Sought.new.Given as goal

abbrev pub invariant-loop : goal.invariant-loop
invariant-loop l = l.counts.items ≡ replicate l.counter 0
