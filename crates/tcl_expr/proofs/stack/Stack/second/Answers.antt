use Rattle.std.proofs.Common.{◌≡◌, length, ◌∙◌, arith}
use Rattle.std.proofs.lemmas.Bool.Decides.{nat_tests}
use Rattle.tcl_expr.proofs.Stacked.{second_between}
use Rattle.tcl_expr.proofs.stack.Stack.second.Goals as goal

pub returns-then-len-eq1 : goal.returns-then-len-eq1
returns-then-len-eq1 c =
    let one : length c.self.inside.high.items ≡ 1 = (let is = c.len.ensures in let eq = c.if-len-eq1.true in grind (arith, nat_tests)) in
    c.last.ensures ∙ rw (c.as_slice-then-len-eq1.ensures.value, ← c.self.view_is) (second_between c.self.inside.low.items c.self.inside.high.items one)
