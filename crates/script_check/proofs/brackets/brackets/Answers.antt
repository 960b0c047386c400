use Rattle.std.proofs.Common.{◌≡◌, ◌++◌, ◌≤◌, get_or, length, append-nil, arith}
use Rattle.script_check.specs.Brackets.{bracket_at}
use Rattle.script_check.proofs.Steps.{brackets_turn, brackets_over}
use Rattle.script_check.proofs.brackets.brackets.Goals as goal

pub loop-rest-preserved : goal.loop-rest-preserved
loop-rest-preserved c =
    let s = c.loop-rest.rest.now in
    let h : 1 ≤ length s = omega arith in
    let e : c.bracket_at.new.out.items ≡ c.loop-rest.out.items ++ (bracket_at c.args.end (get_or s 0 0) s).0 = grind arith in
    let m : c.in_ok-n.n ≡ (bracket_at c.args.end (get_or s 0 0) s).1 = grind arith in
    let t = brackets_turn c.args.end s c.loop-rest.out.items c.bracket_at.new.out.items c.in_ok-n.n h e m in
    grind arith

pub returns : goal.returns
returns c =
    let e = brackets_over c.args.end c.loop-rest.rest.now (omega arith) in
    grind (arith, append-nil)
