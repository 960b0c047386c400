-- Decimal numbers, read from the left.
use Rattle.std.proofs.Common.{◌≡◌, ℕ, ◌+◌, ◌*◌, ◌-◌, ◌<◌, ◌≤◌, List, [], ◌∷◌, ◌++◌, length, take, drop, get_or, Bool, true, false, ◌&&◌, Option, Some, None, refl, sym, ap, ◌∙◌, arith, length-take}
use Rattle.std.specs.Prelude.{if◌then◌else◌, ◌==◌, nat_le}
use Rattle.std.specs.Str.{all_ascii_digits}
use Rattle.std.specs.Char.{is_ascii_digit, digit_value}
use Rattle.std.specs.Str.Parse.{digits_value, digits_value_after}
use Rattle.std.proofs.lemmas.Bool.Decides.{nat_tests}
use Rattle.std.proofs.lemmas.Bool.{and_parts}
use Rattle.std.proofs.lemmas.List.{drop_more, drop_all, take_more}
use Rattle.child_events.specs.Reading.{starts_number, digits_number, NumberFirst}
use Rattle.child_events.proofs.Parts.{Without, parts_at}

-- the number that digits write behind those of n
abbrev pub number_from : ℕ → List ℕ → Option ℕ
number_from n [] = Some n
number_from n (b ∷ bs) = if is_ascii_digit b then number_from (n * 10 + (b - 48)) bs else None

digit_is : (b : ℕ) → is_ascii_digit b ≡ true → digit_value b ≡ b - 48
digit_is b h = grind (arith, nat_tests)

pub number_from_is : (n : ℕ) (w : List ℕ) → number_from n w ≡ (if all_ascii_digits w then Some (digits_value_after 10 n w) else None)
number_from_is n [] = refl
number_from_is n (b ∷ bs) = by_test (is_ascii_digit b) refl (number_from_is (n * 10 + (b - 48)) bs)
  where
    by_test : (t : Bool) → is_ascii_digit b ≡ t →
        number_from (n * 10 + (b - 48)) bs ≡ (if all_ascii_digits bs then Some (digits_value_after 10 (n * 10 + (b - 48)) bs) else None) →
        (if t then number_from (n * 10 + (b - 48)) bs else None) ≡ (if t && all_ascii_digits bs then Some (digits_value_after 10 (n * 10 + digit_value b) bs) else None)
    by_test true h others = others ∙ ap (λ (d : ℕ). if all_ascii_digits bs then Some (digits_value_after 10 (n * 10 + d) bs) else None) (sym (digit_is b h))
    by_test false h others = refl

-- the loop stops at what is no digit
pub number_stops : (n : ℕ) (w : List ℕ) (i : ℕ) → i < length w → is_ascii_digit (get_or w i 0) ≡ false → number_from n (drop i w) ≡ number_from 0 w → None ≡ digits_number w
number_stops n w i lt other same =
    sym (
    sym (number_from_is 0 w) ∙ sym same ∙ ap (number_from n) (drop_more w i 0 lt)
    ∙ ap (λ (t : Bool). if t then number_from (n * 10 + (get_or w i 0 - 48)) (drop (i + 1) w) else None) other
    )

-- or at the end
pub number_ends : (n : ℕ) (w : List ℕ) (i : ℕ) → length w ≤ i → number_from n (drop i w) ≡ number_from 0 w → Some n ≡ digits_number w
number_ends n w i le same = sym (ap (number_from n) (drop_all i w le)) ∙ same ∙ number_from_is 0 w

-- a digit more
number_more : (m n b : ℕ) (w : List ℕ) → number_from m w ≡ Some n → is_ascii_digit b ≡ true → number_from m (w ++ b ∷ []) ≡ Some (n * 10 + (b - 48))
number_more m n b [] so digit =
    let same : m ≡ n = cc in
    ap (λ (t : Bool). if t then Some (m * 10 + (b - 48)) else None) digit ∙ ap (λ (k : ℕ). Some (k * 10 + (b - 48))) same
number_more m n b (d ∷ w) so digit = by_test (is_ascii_digit d) (λ others. number_more (m * 10 + (d - 48)) n b w others digit) so
  where
    by_test : (t : Bool) → (number_from (m * 10 + (d - 48)) w ≡ Some n → number_from (m * 10 + (d - 48)) (w ++ b ∷ []) ≡ Some (n * 10 + (b - 48))) →
        (if t then number_from (m * 10 + (d - 48)) w else None) ≡ Some n → (if t then number_from (m * 10 + (d - 48)) (w ++ b ∷ []) else None) ≡ Some (n * 10 + (b - 48))
    by_test true more so = more so
    by_test false more so = absurd (cc)

pub digits_more : (w : List ℕ) (i n : ℕ) → i < length w → is_ascii_digit (get_or w i 0) ≡ true → digits_number (take i w) ≡ Some n → digits_number (take (i + 1) w) ≡ Some (n * 10 + (get_or w i 0 - 48))
digits_more w i n lt digit so =
    ap digits_number (take_more w i 0 lt)
    ∙ sym (number_from_is 0 (take i w ++ get_or w i 0 ∷ []))
    ∙ number_more 0 n (get_or w i 0) (take i w) (number_from_is 0 (take i w) ∙ so) digit

-- digits are no separator
pub digits_without : (w : List ℕ) (n : ℕ) → digits_number w ≡ Some n → Without 32 w
digits_without w n is = by_test (all_ascii_digits w) refl is
  where
    no_space : (d : ℕ) → is_ascii_digit d ≡ true → (d == 32) ≡ false
    no_space d digit = grind (arith, nat_tests)

    each : (v : List ℕ) → all_ascii_digits v ≡ true → Without 32 v
    each [] all = tt
    each (d ∷ v) all = let both = and_parts (is_ascii_digit d) (all_ascii_digits v) all in (no_space d both.0, each v both.1)

    by_test : (t : Bool) → all_ascii_digits w ≡ t → (if t then Some (digits_value 10 w) else None) ≡ Some n → Without 32 w
    by_test true all is = each w all
    by_test false all is = absurd (cc)

-- a number in front of a space
pub number_first : (bytes : List ℕ) (i n : ℕ) → i < length bytes → i ≤ 16 → get_or bytes i 0 ≡ 32 → starts_number (take i bytes) ≡ true → digits_number (take i bytes) ≡ Some n → NumberFirst bytes n (drop (i + 1) bytes)
number_first bytes i n lt few space starts is = record {
  word = take i bytes;
  split = parts_at 32 bytes i lt space (digits_without (take i bytes) n is);
  number = by_tests (starts_number (take i bytes)) (nat_le (length (take i bytes)) 16) starts short;
}
  where
    short : nat_le (length (take i bytes)) 16 ≡ true
    short = let len : length (take i bytes) ≤ 16 = omega (arith, length-take i bytes) in grind (arith, nat_tests)

    by_tests : (s l : Bool) → s ≡ true → l ≡ true → (if s && l then digits_number (take i bytes) else None) ≡ Some n
    by_tests true true hs hl = is
    by_tests true false hs hl = absurd (cc)
    by_tests false l hs hl = absurd (cc)

-- one digit in front of a space
pub one_first : (d n : ℕ) (rest : List ℕ) → is_ascii_digit d ≡ true → n ≡ d - 48 → NumberFirst (d ∷ 32 ∷ rest) n rest
one_first d n rest digit is = number_first (d ∷ 32 ∷ rest) 1 n (omega arith) (omega arith) refl refl written
  where
    written : digits_number (d ∷ []) ≡ Some n
    written =
        let same : 0 * 10 + (d - 48) ≡ n = omega (arith, is) in
        sym (number_from_is 0 (d ∷ [])) ∙ ap (λ (t : Bool). if t then Some (0 * 10 + (d - 48)) else None) digit ∙ ap Some same

-- or two
pub two_first : (h l n : ℕ) (rest : List ℕ) → is_ascii_digit h ≡ true → is_ascii_digit l ≡ true → (h ≡ 48 → ⊥) → n ≡ (h - 48) * 10 + (l - 48) → NumberFirst (h ∷ l ∷ 32 ∷ rest) n rest
two_first h l n rest high low some is = number_first (h ∷ l ∷ 32 ∷ rest) 2 n (omega arith) (omega arith) refl starts written
  where
    starts : starts_number (h ∷ l ∷ []) ≡ true
    starts = grind (arith, nat_tests)

    written : digits_number (h ∷ l ∷ []) ≡ Some n
    written =
        let same : (0 * 10 + (h - 48)) * 10 + (l - 48) ≡ n = omega (arith, is) in
        sym (number_from_is 0 (h ∷ l ∷ []))
        ∙ ap (λ (t : Bool). if t then number_from (0 * 10 + (h - 48)) (l ∷ []) else None) high
        ∙ ap (λ (t : Bool). if t then Some ((0 * 10 + (h - 48)) * 10 + (l - 48)) else None) low
        ∙ ap Some same
