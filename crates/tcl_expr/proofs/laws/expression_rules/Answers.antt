use Rattle.tcl_expr.proofs.Ruled.{is_expression, expression_is, one_expression}
use Rattle.tcl_expr.proofs.laws.expression_rules.Goals as goal

pub returns-clause-rules : goal.returns-clause-rules
returns-clause-rules c = λ text t. (is_expression text t, expression_is text t)

pub returns-clause-one : goal.returns-clause-one
returns-clause-one c = one_expression
