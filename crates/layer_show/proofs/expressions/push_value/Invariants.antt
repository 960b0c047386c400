use Rattle.tcl_expr.specs.Run.{Serves}
use Rattle.layer_show.proofs.expressions.push_value.Given as goal

abbrev pub invariant-operands : goal.invariant-operands
invariant-operands l = Serves l.expr l.log
