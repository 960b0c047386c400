use Rattle.expect_core.proofs.Tooling.{runs_in_order}
use Rattle.expect_core.proofs.laws.tools_in_order.Goals as goal

pub returns : goal.returns
returns c = runs_in_order
