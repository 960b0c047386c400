-- A number is one of several.
use Rattle.std.specs.Prelude.{◌≡◌, ◌⊎◌, ℕ, List, [], ◌∷◌}

abbrev pub IsAmong : ℕ → List ℕ → Type 0
IsAmong j [] = ⊥
IsAmong j (i ∷ is) = (i ≡ j) ⊎ IsAmong j is
