use Rattle.dialogue_sched.proofs.Quieting.{SoonestTo}
use Rattle.dialogue_sched.proofs.hall.Hall.deadline.Given as goal

abbrev pub invariant-loop-i : goal.invariant-loop-i
invariant-loop-i l = SoonestTo l.i l.self l.last
