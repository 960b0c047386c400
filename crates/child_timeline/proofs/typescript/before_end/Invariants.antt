use Rattle.child_timeline.proofs.Taping.{IsShownTo}
use Rattle.child_timeline.proofs.typescript.before_end.Given as goal

abbrev pub invariant-loop-i : goal.invariant-loop-i
invariant-loop-i l = IsShownTo l.bytes l.i
