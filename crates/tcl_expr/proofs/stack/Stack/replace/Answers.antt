use Rattle.std.proofs.Common.{◌≡◌, ◌<◌, length, rules, arith}
use Rattle.std.proofs.lemmas.Bool.Decides.{nat_tests}
use Rattle.std.specs.Vec.{vec_len}
use Rattle.tcl_expr.proofs.Stacked.{set_high}
use Rattle.tcl_expr.proofs.stack.Stack.replace.Goals as goal

pub returns-then-above-ne0 : goal.returns-then-above-ne0
returns-then-above-ne0 c =
    let some : 0 < length c.self.inside.high.items = (let is = c.len-above.ensures in let ne = c.if-above-ne0.true in grind (arith, nat_tests)) in
    let count : vec_len c.self.inside.high ≡ length c.self.inside.high.items = search rules in
    rw (c.len-above.ensures, count, ← c.self.view_is) (set_high c.self.inside.low.items c.self.inside.high.items c.args.item some)
