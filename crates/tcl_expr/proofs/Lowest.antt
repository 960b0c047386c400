-- The lowest number: its text, and that its digits alone are no number.
use Rattle.std.proofs.Common.{◌≡◌, ℕ, suc, ◌<◌, ◌^◌, nat_lt, nat_le, Bool, true, false, not, ◌&&◌, ◌||◌, List, [], ◌∷◌, ◌++◌, length, get_or, take, drop, Option, Some, None, Ok, Err, refl, sym, ap, ◌∙◌, eqb, codes, arith, ◌==◌}
use Rattle.std.specs.List.{list_all}
use Rattle.std.specs.Fmt.{decimal}
use Rattle.std.proofs.lemmas.Bool.{eqb-true}
use Rattle.std.proofs.lemmas.Bool.Decides.{nat_tests}
use Rattle.std.proofs.lemmas.Option.{cond_some}
use Rattle.std.proofs.lemmas.List.{take-append-drop}
use Rattle.std.proofs.lemmas.Fmt.{decimal-digits_value}
use Rattle.tcl_expr.specs.declared.faults.ExprFault.TheVariants.{Syntax}
use Rattle.tcl_expr.specs.Number.{is_digit, value_from, begins_with_zero, is_numeral, numeral}
use Rattle.tcl_expr.specs.White.{past}
use Rattle.tcl_expr.specs.Tree.{Tree}
use Rattle.tcl_expr.specs.Leaf.{begins_digit, digits_len, decimal_literal, leaf, is_lowest, is_lowest_magnitude}
use Rattle.tcl_expr.specs.Grammar.{Inside, term}
use Rattle.tcl_expr.proofs.Numbers.{own}
use Rattle.tcl_expr.proofs.Places.{drop_behind}
use Rattle.tcl_expr.proofs.Whites.{white_none}

abbrev pub lowest_digits : List ℕ
lowest_digits = codes "9223372036854775808"

pub no_minus : (b : ℕ) (s : List ℕ) → eqb b 45 ≡ false → is_lowest b s ≡ false
unfolding is_lowest
no_minus b s e = rw e refl

-- no digit stands behind the digits
pub digits_end : (s : List ℕ) → begins_digit (drop (digits_len s) s) ≡ false
unfolding digits_len
digits_end [] = refl
digits_end (c ∷ m) = by (is_digit c) refl (digits_end m)
  where
    by : (t : Bool) → is_digit c ≡ t → begins_digit (drop (digits_len m) m) ≡ false → begins_digit (drop (digits_len (c ∷ m)) (c ∷ m)) ≡ false
    by true t more =
        let n : digits_len (c ∷ m) ≡ suc (digits_len m) = rw t (omega arith) in
        ap begins_digit (drop_behind c m (digits_len m) (digits_len (c ∷ m)) n) ∙ more
    by false t more = let n : digits_len (c ∷ m) ≡ 0 = rw t refl in ap (λ (k : ℕ). begins_digit (drop k (c ∷ m))) n ∙ t

no_digits : (r : List ℕ) → begins_digit r ≡ false → digits_len r ≡ 0
unfolding digits_len
no_digits [] e = refl
no_digits (c ∷ m) e = rw e refl

pub lowest_len : (r : List ℕ) → begins_digit r ≡ false → digits_len (lowest_digits ++ r) ≡ 19
unfolding digits_len
lowest_len r e = let none : digits_len r ≡ 0 = no_digits r e in rw none refl

pub lowest_reads : (r : List ℕ) → begins_digit r ≡ false → is_lowest 45 (lowest_digits ++ r) ≡ true
unfolding is_lowest
lowest_reads r e = rw (lowest_len r e) refl

both_of : (a b : Bool) → a && b ≡ true → (a ≡ true) × (b ≡ true)
both_of true b e = (refl, e)
both_of false b e = absurd (cc)

magnitude : (o : Option ℕ) → is_lowest_magnitude o ≡ true → o ≡ Some 9223372036854775808
magnitude None t = absurd (cc)
magnitude (Some n) t = ap Some (eqb-true n 9223372036854775808 t)

zero_alone : (ds : List ℕ) → length ds == 1 || not (begins_with_zero ds) ≡ true → get_or ds 0 0 ≡ 48 → length ds ≡ 1
zero_alone [] h z = absurd (omega arith)
zero_alone (d ∷ ds) h z = grind (arith, nat_tests)

some_digits : (n : ℕ) → nat_lt 0 n ≡ true → 0 < n
some_digits n h = grind (arith, nat_tests)

lowest_decimal : decimal 9223372036854775808 ≡ lowest_digits
lowest_decimal = decimal-digits_value own lowest_digits refl (omega arith) (λ z. absurd (omega (arith, z))) (omega arith)

magnitude_digits : (ds : List ℕ) → numeral 9223372036854775808 ds ≡ Some 9223372036854775808 → ds ≡ lowest_digits
magnitude_digits ds is =
    let p = cond_some (is_numeral ds && nat_le (value_from 0 ds) 9223372036854775808) (value_from 0 ds) 9223372036854775808 is in
    let a = both_of (is_numeral ds) (nat_le (value_from 0 ds) 9223372036854775808) p.0 in
    let b = both_of (nat_lt 0 (length ds) && nat_le (length ds) 19 && list_all is_digit ds) (length ds == 1 || not (begins_with_zero ds)) a.0 in
    let c = both_of (nat_lt 0 (length ds) && nat_le (length ds) 19) (list_all is_digit ds) b.0 in
    let d = both_of (nat_lt 0 (length ds)) (nat_le (length ds) 19) c.0 in
    let small : value_from 0 ds < 2 ^ 64 = omega (arith, p.1) in
    let text : decimal (value_from 0 ds) ≡ ds = decimal-digits_value own ds c.1 (some_digits (length ds) d.0) (zero_alone ds b.1) small in
    sym text ∙ ap decimal p.1 ∙ lowest_decimal

-- the text, up to what stands behind its digits
pub lowest_text : (b : ℕ) (s : List ℕ) → is_lowest b s ≡ true → (b ∷ s) ≡ 45 ∷ (lowest_digits ++ drop (digits_len s) s)
unfolding is_lowest
lowest_text b s is =
    let p = both_of (eqb b 45) (is_lowest_magnitude (numeral 9223372036854775808 (take (digits_len s) s))) is in
    let ds : take (digits_len s) s ≡ lowest_digits = magnitude_digits (take (digits_len s) s) (magnitude (numeral 9223372036854775808 (take (digits_len s) s)) p.1) in
    ap (λ (x : ℕ). x ∷ s) (eqb-true b 45 p.0) ∙ ap (λ (x : List ℕ). 45 ∷ x) (sym (take-append-drop (digits_len s) s) ∙ ap (λ (x : List ℕ). x ++ drop (digits_len s) s) ds)

-- the digits without the minus
magnitude_fails : (inside : Inside) (r : List ℕ) → begins_digit r ≡ false → term inside (past (lowest_digits ++ r)) ≡ Err Syntax
unfolding term leaf is_lowest decimal_literal
magnitude_fails inside r e =
    let none : past (lowest_digits ++ r) ≡ lowest_digits ++ r = ap (λ (n : ℕ). drop n (lowest_digits ++ r)) (white_none (lowest_digits ++ r) 0 (omega arith) refl refl) in
    ap (term inside) none ∙ rw (lowest_len r e) refl

-- behind a prefix operator stands no lowest number's magnitude
pub lowest_alone : (inside : Inside) (b : ℕ) (s : List ℕ) (p : Tree × ℕ) → term inside (past s) ≡ Ok p → is_lowest b s ≡ false
lowest_alone inside b s p is = by (is_lowest b s) refl
  where
    by : (t : Bool) → is_lowest b s ≡ t → t ≡ false
    by true t =
        let text : s ≡ lowest_digits ++ drop (digits_len s) s = ap (drop 1) (lowest_text b s t) in
        let fails : term inside (past s) ≡ Err Syntax = ap (λ (x : List ℕ). term inside (past x)) text ∙ magnitude_fails inside (drop (digits_len s) s) (digits_end s) in
        absurd (cc)
    by false t = refl
