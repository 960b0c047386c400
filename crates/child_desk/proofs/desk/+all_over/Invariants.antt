use Rattle.std.proofs.Common.{length}
use Rattle.child_desk.proofs.desk.+all_over.Given as goal

abbrev pub decreases-all_over : goal.decreases-all_over
decreases-all_over l = length l.lines.now
