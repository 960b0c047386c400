use Rattle.std.proofs.Common.{◌≡◌, ◌++◌, ◌≤◌, get_or, length, append-nil, arith}
use Rattle.script_check.specs.Brackets.{operand_at}
use Rattle.script_check.proofs.Steps.{operands_turn, operands_over}
use Rattle.script_check.proofs.brackets.operands.Goals as goal

pub loop-rest-preserved : goal.loop-rest-preserved
loop-rest-preserved c =
    let s = c.loop-rest.rest.now in
    let h : 1 ≤ length s = omega arith in
    let e : c.operand_at.new.out.items ≡ c.loop-rest.out.items ++ (operand_at c.args.end (get_or s 0 0) s).0 = grind arith in
    let m : c.in_ok-n.n ≡ (operand_at c.args.end (get_or s 0 0) s).1 = grind arith in
    let t = operands_turn c.args.end s c.loop-rest.out.items c.operand_at.new.out.items c.in_ok-n.n h e m in
    grind arith

pub returns : goal.returns
returns c =
    let e = operands_over c.args.end c.loop-rest.rest.now (omega arith) in
    grind (arith, append-nil)
