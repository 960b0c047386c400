use Rattle.std.proofs.Common.{map, drop}
use Rattle.tcl_expr.specs.Stack.{item_text}
use Rattle.tcl_expr.proofs.Advancing.{held_first}
use Rattle.tcl_expr.proofs.advance.answer.Goals as goal

pub returns-in-Ok : goal.returns-in-Ok
returns-in-Ok c =
    let log = c.args.log.now in
    (map (item_text log.given) (drop 1 log.stack), held_first log.given log.stack c.in-Some.item c.in-Ok.value c.in-Some.ensures c.in-Ok.ensures)
