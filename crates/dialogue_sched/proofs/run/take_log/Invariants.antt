use Rattle.std.proofs.Common.{◌+◌, ◌≤◌}
use Rattle.dialogue_sched.proofs.Parting.{TakenTo}
use Rattle.dialogue_sched.proofs.run.take_log.Given as goal

-- what was taken, and what is left
abbrev pub invariant-parts : goal.invariant-parts
invariant-parts l = record {
  to : TakenTo l.fn.log.said l.log.said l.before l.fn.hall l.hall;
  fewer : l.before + l.log.bytes ≤ l.all;
}

abbrev pub decreases-parts : goal.decreases-parts
decreases-parts l = l.log.bytes
