-- Lists from which one element each is taken in turn.
use Rattle.std.specs.Prelude.{◌≡◌, ℕ, zero, suc, List, [], ◌∷◌, ◌++◌, Option, Some, None}

-- Takes `n` elements, but stops at the first turn of a list that has none.
abbrev pub in_turn : {X : Type 0} → ℕ → List (List X) → List X
in_turn zero parts = []
in_turn (suc n) [] = []
in_turn (suc n) ([] ∷ parts) = []
in_turn (suc n) ((x ∷ part) ∷ parts) = x ∷ in_turn n (parts ++ part ∷ [])

-- The first element was taken, if there is one.
abbrev pub TakesFirst : {X : Type 0} → List X → Option X → List X → Type 0
TakesFirst old None new = old ≡ []
TakesFirst old (Some x) new = old ≡ x ∷ new

-- The first element in turn was taken, if there is one.
abbrev pub TakesTurn : {X : Type 0} → List (List X) → Option X → List (List X) → Type 0
TakesTurn old None new = (n : ℕ) → in_turn n old ≡ []
TakesTurn old (Some x) new = (n : ℕ) → in_turn (suc n) old ≡ x ∷ in_turn n new
