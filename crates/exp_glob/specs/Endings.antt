-- Bytes of the last run. A match that ends after a given index contains them near that index or after it.
use Rattle.std.specs.Prelude.{◌≡◌, ◌⊎◌, ℕ, ◌+◌, ◌<◌, ◌≤◌, Bool, true, false, List, [], ◌∷◌, length}
use Rattle.memchr.specs.Find.{OccursAt}
use Rattle.exp_glob.specs.declared.element.Element.{Element}
use Rattle.exp_glob.specs.declared.literal.Literals.{Literals}
use Rattle.exp_glob.specs.Literals.{AreLiterals}
use Rattle.exp_glob.specs.Matching.{Spans}
use Rattle.exp_glob.specs.Stars.{is_star}

-- For each match, one of two holds. It could end at n or before, or the text contains these bytes, beginning after n or
-- less than `back` before n.
abbrev pub IsEnding : Bool → List Element → ℕ → List ℕ → Type 0
IsEnding nocase es back bytes =
    0 < length bytes → (s : List ℕ) (a b n : ℕ) → Spans nocase es s a b →
    ((c : ℕ) × (c ≤ n) × Spans nocase es s a c) ⊎ ((k : ℕ) × (n < k + back) × OccursAt s bytes k)

-- All elements are stars.
abbrev pub AreStars : List Element → Type 0
AreStars [] = Unit {0}
AreStars (e ∷ es) = (is_star e ≡ true) × AreStars es

-- No element is a star.
abbrev pub HasNoStar : List Element → Type 0
HasNoStar [] = Unit {0}
HasNoStar (e ∷ es) = (is_star e ≡ false) × HasNoStar es

-- The literals fit the elements: a search may use them.
pub record IsSoughtBy (nocase : Bool) (es : List Element) (l : Literals) : Type 0 where
  pub runs : AreLiterals nocase es l.runs.items
  pub ending : IsEnding nocase es l.ending.back l.ending.bytes.items

-- Each match could also end at n or before.
abbrev pub CouldEndBefore : List Element → Bool → List ℕ → ℕ → Type 0
CouldEndBefore es nocase s n = (a b : ℕ) → Spans nocase es s a b → (c : ℕ) × (c ≤ n) × Spans nocase es s a c
