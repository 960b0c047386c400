use Rattle.expect_core.proofs.EachCall.{outcome_onward}
use Rattle.expect_core.proofs.Goodness.{good_fresh, outcome_good}
use Rattle.expect_core.proofs.Fronts.{outcome_told}
use Rattle.expect_core.proofs.Numbered.{numbered_fresh, outcome_numbered}
use Rattle.expect_core.proofs.Moments.{good_offered}
use Rattle.expect_core.proofs.Asleep.{waits_on}
use Rattle.expect_core.proofs.Asking.{answers_asked}
use Rattle.expect_core.proofs.Worlds.{holds_worlds}
use Rattle.expect_core.proofs.laws.dialogue_laws.Goals as goal

pub returns-clause-goes_on : goal.returns-clause-goes_on
returns-clause-goes_on c = outcome_onward

pub returns-clause-stays_good : goal.returns-clause-stays_good
returns-clause-stays_good c = record { begins = good_fresh; offered = good_offered; called = outcome_good }

pub returns-clause-stays_told : goal.returns-clause-stays_told
returns-clause-stays_told c = outcome_told

pub returns-clause-stays_numbered : goal.returns-clause-stays_numbered
returns-clause-stays_numbered c = record { begins = numbered_fresh; offered = λ e st k. k; called = outcome_numbered }

pub returns-clause-holds_worlds : goal.returns-clause-holds_worlds
returns-clause-holds_worlds c = holds_worlds

pub returns-clause-waits_on : goal.returns-clause-waits_on
returns-clause-waits_on c = waits_on

pub returns-clause-answers_asked : goal.returns-clause-answers_asked
returns-clause-answers_asked c = answers_asked
