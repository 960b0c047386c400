use Rattle.std.proofs.Common.{◌≡◌, length}
use Rattle.expect_prog.proofs.running.cancellations.Given as goal

abbrev pub invariant-loop-at : goal.invariant-loop-at
invariant-loop-at g l = length l.cancellations.items ≡ l.at
