use Rattle.std.proofs.Common.{arith}
use Rattle.tcl_expr.proofs.Powers.{least_power}
use Rattle.tcl_expr.proofs.values.least_exponent.Goals as goal

pub returns : goal.returns
returns c = λ z. least_power z c.args.e (omega arith)
