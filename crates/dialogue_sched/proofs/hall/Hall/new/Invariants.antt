use Rattle.std.proofs.Common.{vec_len}
use Rattle.dialogue_sched.specs.Hall.{Begins}
use Rattle.dialogue_sched.proofs.Opening.{Through}
use Rattle.dialogue_sched.proofs.hall.Hall.new.Given as goal

abbrev pub invariant-loop-script : goal.invariant-loop-script
invariant-loop-script l = Through Begins l.fn.scripts.items l.script-iterator.rest.items l.sessions.items (vec_len l.sessions)
