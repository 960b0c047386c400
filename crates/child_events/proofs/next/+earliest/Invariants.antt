use Rattle.std.proofs.Common.{length}
use Rattle.child_events.proofs.next.+earliest.Given as goal

abbrev pub decreases-earliest : goal.decreases-earliest
decreases-earliest l = length l.heads.now
