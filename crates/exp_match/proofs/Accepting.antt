-- The three tests of a regular pattern: its length, its encoding and its characters.
use Rattle.std.proofs.Common.{◌≡◌, ℕ, ◌≤◌, nat_le, Bool, true, false, ◌&&◌, List, length, refl, ap, ◌∙◌, IsUtf8, arith}
use Rattle.std.proofs.lemmas.Bool.Decides.{nat_tests}
use Rattle.std.proofs.lemmas.Str.{IsUtf8-from_is_utf8, is_utf8-from_IsUtf8}
use Rattle.std.specs.Str.{chars, is_utf8}
use Rattle.exp_match.specs.Scan.{is_pattern, accepts, outermost}

second_false : (a c : Bool) → (a && false) && c ≡ false
second_false true c = refl
second_false false c = refl

third_false : (b : Bool) → b && false ≡ false
third_false true = refl
third_false false = refl

pub both_of : (a b : Bool) → a && b ≡ true → (a ≡ true) × (b ≡ true)
both_of true true e = (refl, refl)
both_of true false e = absurd (cc)
both_of false b e = absurd (cc)

pub no_text : (text : List ℕ) → ¬ IsUtf8 text → is_pattern text ≡ false
unfolding is_pattern
no_text text h = by (is_utf8 text) refl
  where
    by : (b : Bool) → is_utf8 text ≡ b → (nat_le (length text) 4096 && is_utf8 text) && accepts (chars text) outermost ≡ false
    by true e = absurd (h (IsUtf8-from_is_utf8 text e))
    by false e = ap (λ b. (nat_le (length text) 4096 && b) && accepts (chars text) outermost) e ∙ second_false (nat_le (length text) 4096) (accepts (chars text) outermost)

pub no_pattern : (text : List ℕ) → accepts (chars text) outermost ≡ false → is_pattern text ≡ false
unfolding is_pattern
no_pattern text e = ap (λ b. (nat_le (length text) 4096 && is_utf8 text) && b) e ∙ third_false (nat_le (length text) 4096 && is_utf8 text)

short : (n : ℕ) → n ≤ 4096 → nat_le n 4096 ≡ true
short n h = grind (arith, nat_tests)

pub a_pattern : (text : List ℕ) → length text ≤ 4096 → IsUtf8 text → accepts (chars text) outermost ≡ true → is_pattern text ≡ true
unfolding is_pattern
a_pattern text le utf8 e =
    ap (λ b. (b && is_utf8 text) && accepts (chars text) outermost) (short (length text) le)
    ∙ ap (λ b. (true && b) && accepts (chars text) outermost) (is_utf8-from_IsUtf8 text utf8)
    ∙ e

within : (n : ℕ) → nat_le n 4096 ≡ true → n ≤ 4096
within n h = grind (arith, nat_tests)

pub pattern_parts : (text : List ℕ) → is_pattern text ≡ true → (length text ≤ 4096) × IsUtf8 text × (accepts (chars text) outermost ≡ true)
unfolding is_pattern
pattern_parts text e =
    let p = both_of (nat_le (length text) 4096 && is_utf8 text) (accepts (chars text) outermost) e in
    let q = both_of (nat_le (length text) 4096) (is_utf8 text) p.0 in
    (within (length text) q.0, IsUtf8-from_is_utf8 text q.1, p.1)
