use Rattle.std.proofs.Common.{◌^◌, ◌∙◌}
use Rattle.tcl_expr.proofs.Powers.{least_halves, shifted}
use Rattle.tcl_expr.proofs.values.halved.Goals as goal

pub returns : goal.returns
returns c = shifted c.args.z (2 ^ c.min.result) c.ranges.z ∙ least_halves c.args.z c.min.result c.args.n c.ranges.z c.min.ensures
