-- Where a text stands, and which places need no look.
use Rattle.std.proofs.Common.{◌≡◌, ℕ, ◌+◌, ◌-◌, ◌<◌, ◌≤◌, true, false, List, length, drop, get_or, eqb, ap, ◌∙◌, subst, ⊎_elim, arith}
use Rattle.std.proofs.lemmas.Bool.{eqb-true, eq-eqb, cases_lt}
use Rattle.std.proofs.lemmas.Bool.Decides.{nat_tests}
use Rattle.std.proofs.lemmas.List.{get_or-drop}
use Rattle.std.specs.Char.{to_ascii_lowercase, to_ascii_uppercase}
use Rattle.memchr.specs.Find.{OccursAt, Nowhere, Passes, is_byte, is_byte2}
use Rattle.exp_match.specs.Exact.{StandsAt}

pub stands_from_occurs : (bytes text : List ℕ) (k : ℕ) → OccursAt bytes text k → StandsAt false text bytes k
stands_from_occurs bytes text k o = (o.fits, λ j h. eq-eqb _ _ (o.reads j h))

pub occurs_from_stands : (bytes text : List ℕ) (k : ℕ) → StandsAt false text bytes k → OccursAt bytes text k
occurs_from_stands bytes text k s = record { fits = s.0; reads = λ j h. eqb-true _ _ (s.1 j h) }

-- a text of which one byte isn't there
pub stands_nowhere : (bytes text : List ℕ) (j : ℕ) → j < length text → Nowhere (Passes (is_byte (get_or text j 0)) bytes) 0 (length bytes) → (k : ℕ) → ¬ StandsAt false text bytes k
stands_nowhere bytes text j inside none k s = none (k + j) (omega arith) (omega (arith, inside, s.0)) (s.1 j inside)

-- a byte that is alike without case is one of the two cases
cases_of : (b c : ℕ) → eqb (to_ascii_lowercase b) (to_ascii_lowercase c) ≡ true → is_byte2 (to_ascii_lowercase c) (to_ascii_uppercase c) b ≡ true
cases_of b c h = grind (arith, nat_tests)

module _ (bytes text : List ℕ) (j c from n : ℕ) (inside : j < length text) (is : get_or text j 0 ≡ c)
    (none : Nowhere (Passes (is_byte2 (to_ascii_lowercase c) (to_ascii_uppercase c)) (drop (from + j) bytes)) 0 n) where
  -- where neither case of the text's byte at j stands, the text doesn't
  pub not_passed : (k : ℕ) → from ≤ k → k < from + n → ¬ StandsAt true text bytes k
  not_passed k ge lt s =
      let test = is_byte2 (to_ascii_lowercase c) (to_ascii_uppercase c) in
      let place : from + j + (k - from) ≡ k + j = omega arith in
      let alike : eqb (to_ascii_lowercase (get_or bytes (k + j) 0)) (to_ascii_lowercase c) ≡ true
      = subst (λ (d : ℕ). eqb (to_ascii_lowercase (get_or bytes (k + j) 0)) (to_ascii_lowercase d) ≡ true) is (s.1 j inside) in
      none (k - from) (omega arith) (omega arith)
      (ap test (get_or-drop (from + j) bytes (k - from) 0 ∙ ap (λ (i : ℕ). get_or bytes i 0) place) ∙ cases_of (get_or bytes (k + j) 0) c alike)

  -- the place that the next one of these bytes belongs to is the least that is left
  pub least_place : ((k : ℕ) → k < from → ¬ StandsAt true text bytes k) → (k : ℕ) → StandsAt true text bytes k → from + n ≤ k
  least_place before k s =
      ⊎_elim (λ (lt : k < from). absurd (before k lt s))
      (λ (ge : from ≤ k). ⊎_elim (λ (lt : k < from + n). absurd (not_passed k ge lt s)) (λ (le : from + n ≤ k). le) (cases_lt k (from + n)))
      (cases_lt k from)

-- the least place with case, from the search for a needle
pub least_occurs : (bytes text : List ℕ) (at : ℕ) → Nowhere (OccursAt bytes text) 0 at → (k : ℕ) → StandsAt false text bytes k → at ≤ k
least_occurs bytes text at none k s =
    ⊎_elim (λ (lt : k < at). absurd (none k (omega arith) lt (occurs_from_stands bytes text k s))) (λ (le : at ≤ k). le) (cases_lt k at)
