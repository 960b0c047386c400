use Rattle.tcl_expr.specs.Run.{Serves}
use Rattle.tcl_expr.proofs.Serving.{given_serves}
use Rattle.tcl_expr.proofs.progress.Operands.give.Goals as goal

pub returns-clause-serves : goal.returns-clause-serves
unfolding Serves
returns-clause-serves c = λ t serves more. rw c.in_ok-push.ensures.pushed (given_serves t c.args.self.now.given c.args.self.now.used c.args.self.now.at c.args.self.now.stack c.args.value c.args.self.now.used_are_given c.args.self.now.stack_is_used serves more)
