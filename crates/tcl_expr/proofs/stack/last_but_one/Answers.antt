use Rattle.tcl_expr.specs.declared.stack.StackEntry.TheVariants as items
use Rattle.std.proofs.Common.{pos}
use Rattle.tcl_expr.proofs.Serving.{second_behind}
use Rattle.tcl_expr.proofs.stack.last_but_one.Goals as goal

pub returns-in-len2-up : goal.returns-in-len2-up
returns-in-len2-up c = second_behind c.args.items.now (items.Number (pos 0)) c.in-len2-up.len_at_least
