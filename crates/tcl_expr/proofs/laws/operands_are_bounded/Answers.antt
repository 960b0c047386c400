use Rattle.tcl_expr.proofs.Bounds.{bounded}
use Rattle.tcl_expr.proofs.laws.operands_are_bounded.Goals as goal

pub returns : goal.returns
returns c = bounded
