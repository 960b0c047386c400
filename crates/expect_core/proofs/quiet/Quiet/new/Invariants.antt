use Rattle.std.proofs.Common.{◌≡◌, false, replicate}
use Rattle.expect_core.proofs.quiet.Quiet.new.Given as goal

abbrev pub invariant-loop : goal.invariant-loop
invariant-loop l = l.marks.items ≡ replicate l.counter false
