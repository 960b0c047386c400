use Rattle.std.proofs.Common.{◌≤◌, ◌<◌, zero, arith}
use Rattle.std.proofs.Math.Nat.{pow-le-pow_right}
use Rattle.child_timeline.proofs.words.digits_number.Goals as goal

pub overflow_mul-n : goal.overflow_mul-n
overflow_mul-n c =
    let few : c.loop-b.b-index ≤ 15 = omega arith in
    let ten : zero < 10 = omega arith in
    omega (arith, c.loop-b.invariant.small, pow-le-pow_right {n = 10} ten few)

pub overflow_add-n : goal.overflow_add-n
overflow_add-n c =
    let few : c.loop-b.b-index ≤ 15 = omega arith in
    let ten : zero < 10 = omega arith in
    omega (arith, c.loop-b.invariant.small, c.from.ensures, pow-le-pow_right {n = 10} ten few)
