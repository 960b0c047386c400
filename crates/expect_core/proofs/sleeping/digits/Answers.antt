use Rattle.std.proofs.Common.{ℕ, ◌≤◌, sym, subst, ◌∙◌}
use Rattle.std.proofs.Math.Nat.{min-le_right}
use Rattle.expect_core.proofs.Lasting.{digits_next}
use Rattle.expect_core.proofs.sleeping.digits.Goals as goal

pub loop-byte-preserved : goal.loop-byte-preserved
loop-byte-preserved c = record {
  most = subst (λ (n : ℕ). n ≤ 9000000000000001) (sym c.with_digit-number.ensures) (min-le_right _ 9000000000000001);
  number =
      digits_next c.loop-byte.number c.loop-byte.byte-index c.args.text.now c.with_digit-number.result c.loop-byte-test.true (sym c.is_digit.ensures ∙ c.if-not-is_digit.false) c.with_digit-number.ensures
      ∙ c.loop-byte.invariant.number;
}
