-- The numbers of a log are what decimal writes.
use Rattle.std.proofs.Common.{◌≡◌, ℕ, zero, suc, ◌<◌, ◌≤◌, ◌^◌, List, [], ◌∷◌, length, get_or, Bool, true, false, ◌&&◌, Option, Some, None, Ok, Err, refl, sym, ap, subst, ◌∙◌, arith}
use Rattle.std.specs.Prelude.{if◌then◌else◌, nat_le}
use Rattle.std.specs.Fmt.{decimal}
use Rattle.std.specs.Str.{all_ascii_digits}
use Rattle.std.specs.Str.Parse.{digits_value}
use Rattle.std.proofs.lemmas.Bool.Decides.{nat_tests}
use Rattle.std.proofs.lemmas.Fmt.{decimal-digits_value, digits_decimal, digits_value-decimal, length-decimal-le, decimal_nonempty, first_decimal, decimal_digit}
use Rattle.std.proofs.lemmas.Str.Parse.{IsNumeralModel, numerals_by_value, tells_all_ascii_digits, digits_value_short}
use Rattle.child_events.specs.declared.faults.LogFault.{LogFault}
use Rattle.child_events.specs.declared.faults.LogFault.TheVariants as fault
use Rattle.child_events.specs.Reading.{starts_number, number_of, number_within, or_fault, ◌>>=◌}

digits : IsNumeralModel (λ ds. all_ascii_digits ds ≡ true) (digits_value 10)
digits = numerals_by_value (λ ds. all_ascii_digits ds ≡ true) tells_all_ascii_digits

starts_some : (w : List ℕ) → starts_number w ≡ true → 0 < length w
starts_some [] h = absurd (cc)
starts_some (d ∷ ds) h = omega arith

lone_zero : (w : List ℕ) → starts_number w ≡ true → get_or w 0 0 ≡ 48 → length w ≡ 1
lone_zero [] h none = absurd (cc)
lone_zero (d ∷ []) h none = omega arith
lone_zero (d ∷ e ∷ ds) h none = absurd (grind (arith, nat_tests))

starts_high : (w : List ℕ) → 0 < length w → 48 < get_or w 0 0 → starts_number w ≡ true
starts_high [] some high = absurd (omega arith)
starts_high (d ∷ []) some high = refl
starts_high (d ∷ e ∷ ds) some high = grind (arith, nat_tests)

-- a text that writes a number has at most sixteen digits
pub record IsNumber (w : List ℕ) (k : ℕ) : Type 0 where
  pub text : w ≡ decimal k
  pub small : k < 10 ^ 16

pub number_said : (w : List ℕ) (k : ℕ) → number_of w ≡ Some k → IsNumber w k
number_said w k h = by_tests (starts_number w) (nat_le (length w) 16) (all_ascii_digits w) refl refl refl h
  where
    by_tests : (p q r : Bool) → starts_number w ≡ p → nat_le (length w) 16 ≡ q → all_ascii_digits w ≡ r →
        (if p && q then (if r then Some (digits_value 10 w) else None) else None) ≡ Some k → IsNumber w k
    by_tests true true true starts few all said =
        let short : length w ≤ 16 = grind (arith, nat_tests) in
        let small : digits_value 10 w < 10 ^ 16 = digits_value_short digits w 16 all short in
        let fits : digits_value 10 w < 2 ^ 64 = omega arith in
        let value : digits_value 10 w ≡ k = cc in
        record {
          text = sym (decimal-digits_value digits w all (starts_some w starts) (lone_zero w starts) fits) ∙ ap decimal value;
          small = subst (λ (m : ℕ). m < 10 ^ 16) value small;
        }
    by_tests true true false starts few all said = absurd (cc)
    by_tests true false r starts few all said = absurd (cc)
    by_tests false q r starts few all said = absurd (cc)

decimal_starts : (k : ℕ) → k < 2 ^ 64 → starts_number (decimal k) ≡ true
decimal_starts zero fits = ap starts_number (decimal_digit 0 (omega arith))
decimal_starts (suc k) fits = starts_high (decimal (suc k)) (decimal_nonempty (suc k) fits) (first_decimal (suc k) (omega arith) fits)

pub number_meant : (k : ℕ) → k < 10 ^ 16 → number_of (decimal k) ≡ Some k
number_meant k small =
    by_tests (starts_number (decimal k)) (nat_le (length (decimal k)) 16) (all_ascii_digits (decimal k)) (decimal_starts k fits) (few (length-decimal-le 16 k (omega arith) small fits)) (digits_decimal digits k fits)
    ∙ ap Some (digits_value-decimal digits k fits)
  where
    fits : k < 2 ^ 64
    fits = omega arith

    few : length (decimal k) ≤ 16 → nat_le (length (decimal k)) 16 ≡ true
    few le = grind (arith, nat_tests)

    by_tests : (p q r : Bool) → p ≡ true → q ≡ true → r ≡ true → (if p && q then (if r then Some (digits_value 10 (decimal k)) else None) else None) ≡ Some (digits_value 10 (decimal k))
    by_tests true true true hp hq hr = refl
    by_tests true true false hp hq hr = absurd (cc)
    by_tests true false r hp hq hr = absurd (cc)
    by_tests false q r hp hq hr = absurd (cc)

pub record Within (w : List ℕ) (low high k : ℕ) : Type 0 where
  pub text : w ≡ decimal k
  pub above : low ≤ k
  pub below : k ≤ high

pub within_said : (n : ℕ) (w : List ℕ) (low high : ℕ) (f : LogFault) (k : ℕ) → number_within n w low high f ≡ Ok k → Within w low high k
within_said n w low high f k h = by_cases (number_of w) refl h
  where
    by_test : (m : ℕ) (p q : Bool) → number_of w ≡ Some m → nat_le low m ≡ p → nat_le m high ≡ q → (if p && q then Ok m else Err f) ≡ Ok k → Within w low high k
    by_test m true true is p q said =
        let same : m ≡ k = cc in
        record { text = (number_said w m is).text ∙ ap decimal same; above = grind (arith, nat_tests); below = grind (arith, nat_tests) }
    by_test m true false is p q said = absurd (cc)
    by_test m false r is p q said = absurd (cc)

    by_cases : (o : Option ℕ) → number_of w ≡ o → (or_fault (fault.Number n) o >>= λ m. if nat_le low m && nat_le m high then Ok m else Err f) ≡ Ok k → Within w low high k
    by_cases None is said = absurd (cc)
    by_cases (Some m) is said = by_test m (nat_le low m) (nat_le m high) is refl refl said

pub within_meant : (n low high : ℕ) (f : LogFault) (k : ℕ) → low ≤ k → k ≤ high → k < 10 ^ 16 → number_within n (decimal k) low high f ≡ Ok k
within_meant n low high f k above below small =
    ap (λ (o : Option ℕ). or_fault (fault.Number n) o >>= λ m. if nat_le low m && nat_le m high then Ok m else Err f) (number_meant k small)
    ∙ by_tests (nat_le low k) (nat_le k high) (grind (arith, nat_tests)) (grind (arith, nat_tests))
  where
    by_tests : (p q : Bool) → p ≡ true → q ≡ true → (if p && q then Ok k else Err f) ≡ Ok k
    by_tests true true hp hq = refl
    by_tests true false hp hq = absurd (cc)
    by_tests false q hp hq = absurd (cc)
