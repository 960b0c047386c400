use Rattle.expect_core.proofs.Apart.{calls_own, stays_of_own, events_one}
use Rattle.expect_core.proofs.laws.children_apart.Goals as goal

pub returns-clause-calls : goal.returns-clause-calls
returns-clause-calls c = calls_own

pub returns-clause-waits : goal.returns-clause-waits
returns-clause-waits c = stays_of_own

pub returns-clause-events : goal.returns-clause-events
returns-clause-events c = events_one
