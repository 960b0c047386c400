use Rattle.std.proofs.Common.{◌≤◌, ap, ◌∙◌, to_z, of_z, arith}
use mir.Syntax.{w128}
use Rattle.std.proofs.lemmas.Int.{to_z-of_z}
use Rattle.tcl_expr.specs.Value.{checked}
use Rattle.tcl_expr.proofs.Powers.{least_scale, wide, widened}
use Rattle.tcl_expr.proofs.values.scaled.Goals as goal

pub overflow_mul-from : goal.overflow_mul-from
overflow_mul-from c =
    let few : c.min.result ≤ 64 = omega arith in
    rw (widened c.args.z c.from.result c.pow.result c.min.result c.ranges.z few c.from.ensures c.pow.ensures) (wide c.args.z c.min.result c.ranges.z few)

pub returns : goal.returns
returns c =
    let few : c.min.result ≤ 64 = omega arith in
    c.narrowed.ensures
    ∙ ap (λ p. checked (to_z w128 (of_z w128 p))) (widened c.args.z c.from.result c.pow.result c.min.result c.ranges.z few c.from.ensures c.pow.ensures)
    ∙ ap checked (to_z-of_z w128 _ (wide c.args.z c.min.result c.ranges.z few))
    ∙ least_scale c.args.z c.min.result c.args.n c.min.ensures
