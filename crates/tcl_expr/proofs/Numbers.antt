-- A number's text reads as the number.
use Rattle.std.proofs.Common.{◌≡◌, ℕ, zero, suc, ◌-◌, ◌<◌, ◌≤◌, ◌^◌, nat_lt, nat_le, Bool, true, false, not, ◌||◌, ◌&&◌, if◌then◌else◌, List, [], ◌∷◌, length, get_or, Option, Some, None, ℤ, pos, negsuc, refl, ap, sym, ◌∙◌, rules, arith, ◌==◌}
use Rattle.std.specs.List.{list_all}
use Rattle.std.specs.Fmt.{decimal}
use Rattle.std.proofs.lemmas.Bool.Decides.{nat_tests}
use Rattle.std.proofs.lemmas.Bool.{lt-ltb}
use Rattle.std.proofs.lemmas.Str.Parse.{IsNumeralModel, numerals_by_fold}
use Rattle.std.proofs.lemmas.Fmt.{decimal-digits_value, digits_decimal, digits_value-decimal, length-decimal-le, decimal_nonempty, first_decimal, decimal_digit}
use Rattle.tcl_expr.specs.declared.bareword.Bareword.{Bareword}
use Rattle.tcl_expr.specs.declared.bareword.Bareword.TheVariants.{True, Yes, On, False, No, Off}
use Rattle.tcl_expr.specs.Number.{is_digit, value_from, begins_with_zero, is_numeral, numeral, positive, negative, number_of, number_text}
use Rattle.tcl_expr.specs.Truth.{word_text, word_of, says, truth_of, truth_from}
use mir.Syntax.{w64}
use mir.Val.{SFits}

pub own : IsNumeralModel (λ ds. list_all is_digit ds ≡ true) (value_from 0)
own = numerals_by_fold _ (search rules) value_from (search rules)

pub word_is_no_number : (w : Bareword) → number_of (word_text w) ≡ None
unfolding number_of
word_is_no_number True = refl
word_is_no_number Yes = refl
word_is_no_number On = refl
word_is_no_number False = refl
word_is_no_number No = refl
word_is_no_number Off = refl

pub word_is_truth : (w : Bareword) → truth_of (word_text w) ≡ Some (says w)
unfolding truth_of number_of word_of
word_is_truth True = refl
word_is_truth Yes = refl
word_is_truth On = refl
word_is_truth False = refl
word_is_truth No = refl
word_is_truth Off = refl

pub empty_is_no_number : number_of [] ≡ None
unfolding number_of
empty_is_no_number = refl

pub empty_is_no_truth : truth_of [] ≡ None
unfolding truth_of number_of word_of
empty_is_no_truth = refl

le-leb : (a b : ℕ) → a ≤ b → nat_le a b ≡ true
le-leb a b h = grind (arith, nat_tests)

zero_first : (ds : List ℕ) → 48 < get_or ds 0 0 → begins_with_zero ds ≡ false
zero_first [] h = refl
zero_first (d ∷ ds) h = grind (arith, nat_tests)

-- digits without a needless zero
no_needless : (n : ℕ) → n < 2 ^ 64 → (length (decimal n) == 1 || not (begins_with_zero (decimal n))) ≡ true
no_needless zero h = ap (λ ds. length ds == 1 || not (begins_with_zero ds)) (decimal_digit zero (omega arith))
no_needless (suc n) h =
    let dark : begins_with_zero (decimal (suc n)) ≡ false = zero_first (decimal (suc n)) (first_decimal (suc n) (omega arith) h) in
    grind (arith, nat_tests)

pub numeral_reads : (n most : ℕ) → n ≤ most → n < 10 ^ 19 → n < 2 ^ 64 → numeral most (decimal n) ≡ Some n
numeral_reads n most le few h =
    let some : nat_lt 0 (length (decimal n)) ≡ true = lt-ltb 0 (length (decimal n)) (decimal_nonempty n h) in
    let short : nat_le (length (decimal n)) 19 ≡ true = le-leb (length (decimal n)) 19 (length-decimal-le 19 n (omega arith) few h) in
    let digits : list_all is_digit (decimal n) ≡ true = digits_decimal own n h in
    let value : value_from 0 (decimal n) ≡ n = digits_value-decimal own n h in
    let within : nat_le n most ≡ true = le-leb n most le in
    rw (some, short, digits, no_needless n h, value, within) refl

of_digits : (ds : List ℕ) → 0 < length ds → (get_or ds 0 0 == 45) ≡ false → number_of ds ≡ positive (numeral 9223372036854775807 ds)
unfolding number_of
of_digits [] h t = absurd (omega arith)
of_digits (d ∷ ds) h t = rw t refl

first_is_digit : (ds : List ℕ) → 0 < length ds → list_all is_digit ds ≡ true → (get_or ds 0 0 == 45) ≡ false
first_is_digit [] h t = absurd (omega arith)
first_is_digit (d ∷ ds) h t = grind (arith, nat_tests)

pub number_reads : (z : ℤ) → SFits w64 z → number_of (number_text z) ≡ Some z
unfolding number_of
number_reads (pos n) fits =
    let small : n < 2 ^ 63 = fits.sfits in
    let h : n < 2 ^ 64 = omega arith in
    of_digits (decimal n) (decimal_nonempty n h) (first_is_digit (decimal n) (decimal_nonempty n h) (digits_decimal own n h))
    ∙ ap positive (numeral_reads n 9223372036854775807 (omega arith) (omega arith) h)
number_reads (negsuc n) fits =
    let small : n < 2 ^ 63 = fits.sfits in
    let back : suc n - 1 ≡ n = omega arith in
    let dark : (suc n == 0) ≡ false = grind (arith, nat_tests) in
    ap negative (numeral_reads (suc n) 9223372036854775808 (omega arith) (omega arith) (omega arith)) ∙ rw dark (ap (λ k. Some (negsuc k)) back)

pub number_is_truth : (z : ℤ) (text : List ℕ) → SFits w64 z → truth_of (number_text z) ≡ truth_from (Some z) text
unfolding truth_of
number_is_truth z text fits = ap (λ n. truth_from n (number_text z)) (number_reads z fits)

-- ---- a text that reads as a number is that number's text

chosen : (b : Bool) (v n : ℕ) → (if b then Some v else None) ≡ Some n → (b ≡ true) × (v ≡ n)
chosen true v n e = (refl, cc)
chosen false v n e = absurd cc

one_if_zero : (ds : List ℕ) → (length ds == 1 || not (begins_with_zero ds)) ≡ true → get_or ds 0 0 ≡ 48 → 0 < length ds → length ds ≡ 1
one_if_zero [] h dark some = absurd (omega arith)
one_if_zero (d ∷ ds) h dark some = grind (arith, nat_tests)

numeral_written : (most : ℕ) (ds : List ℕ) (n : ℕ) → most < 2 ^ 64 → numeral most ds ≡ Some n → decimal n ≡ ds
numeral_written most ds n small is =
    let both = chosen (is_numeral ds && nat_le (value_from 0 ds) most) (value_from 0 ds) n is in
    let digits : list_all is_digit ds ≡ true = grind (arith, nat_tests) in
    let some : 0 < length ds = grind (arith, nat_tests) in
    let lead : (length ds == 1 || not (begins_with_zero ds)) ≡ true = grind (arith, nat_tests) in
    let within : value_from 0 ds ≤ most = grind (arith, nat_tests) in
    ap decimal (sym both.1) ∙ decimal-digits_value own ds digits some (λ zero. one_if_zero ds lead zero some) (omega arith)

positive_written : (ds : List ℕ) (o : Option ℕ) (z : ℤ) → numeral 9223372036854775807 ds ≡ o → positive o ≡ Some z → ds ≡ number_text z
positive_written ds None z is e = absurd cc
positive_written ds (Some n) z is e =
    let same : pos n ≡ z = cc in
    sym (numeral_written 9223372036854775807 ds n (omega arith) is) ∙ ap number_text same

below_zero : (n : ℕ) (z : ℤ) → negative (Some n) ≡ Some z → number_text z ≡ 45 ∷ decimal n
below_zero zero z e = absurd cc
below_zero (suc n) z e =
    let back : suc n - 1 ≡ n = omega arith in
    let light : (suc n == 0) ≡ false = grind (arith, nat_tests) in
    let known : negative (Some (suc n)) ≡ Some (negsuc n) = rw light (ap (λ k. Some (negsuc k)) back) in
    let both : ◌≡◌ {A = Option ℤ} (Some (negsuc n)) (Some z) = sym known ∙ e in
    let same : negsuc n ≡ z = cc in
    ap number_text (sym same)

negative_written : (ds : List ℕ) (o : Option ℕ) (z : ℤ) → numeral 9223372036854775808 ds ≡ o → negative o ≡ Some z → 45 ∷ ds ≡ number_text z
negative_written ds None z is e = absurd cc
negative_written ds (Some n) z is e =
    ap (λ l. 45 ∷ l) (sym (numeral_written 9223372036854775808 ds n (omega arith) is)) ∙ sym (below_zero n z e)

signed_written : (t : Bool) (b : ℕ) (bs : List ℕ) (z : ℤ) → (b == 45) ≡ t → (if t then negative (numeral 9223372036854775808 bs) else positive (numeral 9223372036854775807 (b ∷ bs))) ≡ Some z → b ∷ bs ≡ number_text z
signed_written true b bs z is e =
    let minus : b ≡ 45 = grind (arith, nat_tests) in
    ap (λ c. c ∷ bs) minus ∙ negative_written bs _ z refl e
signed_written false b bs z is e = positive_written (b ∷ bs) _ z refl e

pub number_written : (text : List ℕ) (z : ℤ) → number_of text ≡ Some z → text ≡ number_text z
unfolding number_of
number_written [] z e = absurd cc
number_written (b ∷ bs) z e = signed_written (b == 45) b bs z refl e
