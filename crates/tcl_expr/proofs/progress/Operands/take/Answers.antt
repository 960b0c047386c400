use Rattle.std.proofs.Common.{arith}
use Rattle.tcl_expr.proofs.Serving.{taken_below}
use Rattle.tcl_expr.proofs.progress.Operands.take.Goals as goal

pub invariant_of-self : goal.invariant_of-self
invariant_of-self c = record {
  used_are_given = omega arith;
  stack_is_used = rw c.in-Ok.ensures.pushed (taken_below c.args.self.now.used c.args.self.now.stack c.args.self.now.stack_is_used);
}
