use Rattle.tcl_expr.specs.Run.{Serves}
use Rattle.tcl_expr.proofs.Serving.{exec_all}
use Rattle.tcl_expr.proofs.progress.Operands.new.Goals as goal

pub returns-clause-serves : goal.returns-clause-serves
unfolding Serves
returns-clause-serves c = λ t more. rw (c.new.ensures, c.new-2.ensures) (exec_all t more)
