use Rattle.std.proofs.Common.{◌≡◌, ◌≤◌, length, map, rules, arith}
use Rattle.std.proofs.lemmas.Bool.Decides.{nat_tests}
use Rattle.tcl_expr.specs.Instr.{op_view, postfix}
use Rattle.tcl_expr.proofs.Advancing.{operand_past, operand_here}
use Rattle.tcl_expr.proofs.parsing.Expr.operand.Goals as goal

pub returns-in-None : goal.returns-in-None
returns-in-None c =
    let code : map op_view c.deref.result.now ≡ postfix c.args.self.now = search rules in
    let over : length c.deref.result.now ≤ c.args.number = (let f = c.in-None.ensures.lookup.0 in grind (arith, nat_tests)) in
    operand_past c.deref.result.now c.args.self.now c.args.number code over

pub returns-in-Some : goal.returns-in-Some
returns-in-Some c =
    let code : map op_view c.deref.result.now ≡ postfix c.args.self.now = search rules in
    let f = c.in-Some.ensures.lookup in
    rw (operand_here c.deref.result.now c.args.self.now c.args.number c.in-Some.op.now code f.3.0, ← f.1) c.operand.ensures
