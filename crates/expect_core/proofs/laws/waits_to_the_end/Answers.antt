use Rattle.expect_core.proofs.Listening.{takes_each}
use Rattle.expect_core.proofs.Firsts.{first_is_taken}
use Rattle.expect_core.proofs.Waits.{takes_in_order}
use Rattle.expect_core.proofs.laws.waits_to_the_end.Goals as goal

pub returns-clause-in_order : goal.returns-clause-in_order
returns-clause-in_order c = takes_in_order

pub returns-clause-each : goal.returns-clause-each
returns-clause-each c = takes_each

pub returns-clause-first : goal.returns-clause-first
returns-clause-first c = first_is_taken
