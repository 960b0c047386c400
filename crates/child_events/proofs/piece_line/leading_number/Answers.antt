use Rattle.std.proofs.Common.{ℕ, ◌≤◌, ◌<◌, ◌+◌, ◌*◌, length, zero, Some, sym, ap, ◌∙◌, arith}
use Rattle.std.proofs.lemmas.Grind.{pow_more}
use Rattle.std.proofs.Math.Nat.{pow-le-pow_right}
use Rattle.child_events.proofs.Numbers.{digits_more}
use Rattle.child_events.proofs.piece_line.leading_number.Goals as goal

pub overflow_mul-number : goal.overflow_mul-number
overflow_mul-number c =
    let few : c.loop-i.i ≤ 16 = omega (arith, c.min-end.ensures) in
    let ten : zero < 10 = omega arith in
    omega (arith, c.loop-i.invariant.small, pow-le-pow_right {n = 10} ten few)

pub overflow_add-number : goal.overflow_add-number
overflow_add-number c =
    let few : c.loop-i.i ≤ 16 = omega (arith, c.min-end.ensures) in
    let ten : zero < 10 = omega arith in
    omega (arith, c.loop-i.invariant.small, c.from.ensures, pow-le-pow_right {n = 10} ten few)

pub loop-i-preserved : goal.loop-i-preserved
loop-i-preserved c =
    let lt : c.loop-i.i < length c.args.bytes.now = omega (arith, c.min-end.ensures) in
    record {
      so_far =
          digits_more c.args.bytes.now c.loop-i.i c.loop-i.number lt (sym c.if-not-is_ascii_digit.ensures.value) c.loop-i.invariant.so_far
          ∙ ap (λ (d : ℕ). Some (c.loop-i.number * 10 + d)) (sym c.from.ensures);
      small = omega (arith, pow_more 10 c.loop-i.i, c.loop-i.invariant.small, c.from.ensures, c.if-not-is_ascii_digit.ensures.cases);
    }
