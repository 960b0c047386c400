use Rattle.dialogue_sched.proofs.Reaching.{from_start, steps_on, hands_on, tells}
use Rattle.dialogue_sched.proofs.laws.hall_law.Goals as goal

pub returns-clause-from_start : goal.returns-clause-from_start
returns-clause-from_start c = from_start

pub returns-clause-steps_on : goal.returns-clause-steps_on
returns-clause-steps_on c = steps_on

pub returns-clause-hands_on : goal.returns-clause-hands_on
returns-clause-hands_on c = hands_on

pub returns-clause-tells : goal.returns-clause-tells
returns-clause-tells c = tells
