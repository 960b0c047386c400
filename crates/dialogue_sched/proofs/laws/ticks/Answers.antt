use Rattle.dialogue_sched.proofs.Ticking.{ticks_are_one, ticks_change_nothing, ticks_only_add}
use Rattle.dialogue_sched.proofs.laws.ticks.Goals as goal

pub returns-clause-one : goal.returns-clause-one
returns-clause-one c = ticks_are_one

pub returns-clause-ended : goal.returns-clause-ended
returns-clause-ended c = ticks_change_nothing

pub returns-clause-waiting : goal.returns-clause-waiting
returns-clause-waiting c = ticks_only_add
