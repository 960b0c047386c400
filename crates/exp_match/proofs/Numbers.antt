-- The counts of the rules are read as such.
use Rattle.std.proofs.Common.{◌≡◌, ℕ, ◌+◌, ◌-◌, ◌*◌, ◌<◌, ◌≤◌, nat_le, Bool, true, false, ◌||◌, List, ◌∷◌, drop, get_or, Some, eqb, refl, sym, ap, ◌∙◌, arith}
use Rattle.std.proofs.lemmas.Bool.Decides.{nat_tests}
use Rattle.std.proofs.lemmas.List.{drop-drop, get_or-drop}
use Rattle.exp_match.specs.Grammar.{Number, one_digit, two_digits}
use Rattle.exp_match.specs.Grammar as grammar
use Rattle.exp_match.specs.Scan.{is_digit, number, count}

digit_true : (a : ℕ) → a < 10 → is_digit (48 + a) ≡ true
digit_true a h = grind (arith, nat_tests)

not_nought : (a : ℕ) → 0 < a → eqb (48 + a) 48 ≡ false
not_nought a h = grind (arith, nat_tests)

within_bounds : (n : ℕ) → n ≤ 255 → nat_le n 255 ≡ true
within_bounds n h = grind (arith, nat_tests)

right_true : (t : Bool) → t || true ≡ true
right_true true = refl
right_true false = refl

-- a number is read where no digit stands behind it
number_reads : (m : ℕ) (s t : List ℕ) → Number m s t → is_digit (get_or t 0 0) ≡ false → (k : ℕ) × (number s ≡ Some (m, k)) × (t ≡ drop k s)
unfolding number
number_reads m s t (one_digit a s' small) ends =
    let value : 48 + a - 48 ≡ a = omega arith in
    (1, rw (digit_true a small, ends, right_true (eqb (48 + a) 48), value) refl, refl)
number_reads m s t (two_digits a b s' some small next) ends =
    let value : 10 * (48 + a - 48) + (48 + b - 48) ≡ 10 * a + b = omega arith in
    (2, rw (digit_true a small, not_nought a some, digit_true b next, ends, value) refl, refl)
number_reads m s t (grammar.three_digits a b c s' some small next after le) ends =
    let value : 100 * (48 + a - 48) + 10 * (48 + b - 48) + (48 + c - 48) ≡ 100 * a + 10 * b + c = omega arith in
    (3, rw (digit_true a small, not_nought a some, digit_true b next, digit_true c after, value, within_bounds _ le) refl, refl)

no_brace : (a : ℕ) → a < 10 → eqb (48 + a) 125 ≡ false
no_brace a h = grind (arith, nat_tests)

number_head : (m : ℕ) (s t : List ℕ) → Number m s t → eqb (get_or s 0 0) 125 ≡ false
number_head m s t (one_digit a s' small) = no_brace a small
number_head m s t (two_digits a b s' some small next) = no_brace a small
number_head m s t (grammar.three_digits a b c s' some small next after le) = no_brace a small

pub number_digit : (m : ℕ) (s t : List ℕ) → Number m s t → is_digit (get_or s 0 0) ≡ true
number_digit m s t (one_digit a s' small) = digit_true a small
number_digit m s t (two_digits a b s' some small next) = digit_true a small
number_digit m s t (grammar.three_digits a b c s' some small next after le) = digit_true a small

-- what stands at a place, by what is left there
pub standing : (s : List ℕ) (k c : ℕ) (t : List ℕ) → c ∷ t ≡ drop k s → (get_or s k 0 ≡ c) × (t ≡ drop (k + 1) s)
standing s k c t e =
    let here : k + 0 ≡ k = omega arith in (
      sym (ap (λ (i : ℕ). get_or s i 0) here) ∙ sym (get_or-drop k s 0 0) ∙ sym (ap (λ (x : List ℕ). get_or x 0 0) e),
      ap (drop 1) e ∙ drop-drop 1 k s,
    )

le_true : (m n : ℕ) → m ≤ n → nat_le m n ≡ true
le_true m n h = grind (arith, nat_tests)

pub exactly_reads : (m : ℕ) (s t : List ℕ) → Number m s (125 ∷ t) → (k : ℕ) × (count s ≡ Some k) × (t ≡ drop k s)
unfolding count
exactly_reads m s t n =
    let r = number_reads m s (125 ∷ t) n refl in
    let p = standing s r.0 125 t r.2 in
    (r.0 + 1, rw (r.1, p.0) refl, p.1)

pub at_least_reads : (m : ℕ) (s t : List ℕ) → Number m s (44 ∷ 125 ∷ t) → (k : ℕ) × (count s ≡ Some k) × (t ≡ drop k s)
unfolding count
at_least_reads m s t n =
    let r = number_reads m s (44 ∷ 125 ∷ t) n refl in
    let p = standing s r.0 44 (125 ∷ t) r.2 in
    (r.0 + 1 + 1, rw (r.1, p.0, ← p.1) refl, ap (drop 1) p.1 ∙ drop-drop 1 (r.0 + 1) s)

pub between_reads : (m n : ℕ) (s t u : List ℕ) → Number m s (44 ∷ t) → Number n t (125 ∷ u) → m ≤ n → (k : ℕ) × (count s ≡ Some k) × (u ≡ drop k s)
unfolding count
between_reads m n s t u low high le =
    let r = number_reads m s (44 ∷ t) low refl in
    let p = standing s r.0 44 t r.2 in
    let q = number_reads n t (125 ∷ u) high refl in
    let v = standing t q.0 125 u q.2 in
    let order : nat_le m n ≡ true = le_true m n le in
    (r.0 + 1 + (q.0 + 1), rw (r.1, p.0, ← p.1, number_head n t (125 ∷ u) high, q.1, v.0, order) refl, v.1 ∙ ap (drop (q.0 + 1)) p.1 ∙ drop-drop (q.0 + 1) (r.0 + 1) s)
