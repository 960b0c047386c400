-- Words whose value doesn't depend on variables.
use Rattle.std.specs.Prelude.{◌≡◌, ℕ, List, [], ◌∷◌, false}
use Rattle.tcl_words.specs.Pieces.{Spelled}
use Rattle.tcl_subst.specs.Filling.{fill, Full}
use Rattle.tcl_subst.specs.Variables.{Variables}

-- The word isn't split as a list, and always has this value.
abbrev pub IsLiteral : Spelled → List ℕ → Type 0
IsLiteral w value = (w.expand ≡ false) × ((vars : Variables) → fill w.pieces vars ≡ Full value)

-- The words have these values, one each.
abbrev pub AreLiterals : List Spelled → List (List ℕ) → Type 0
AreLiterals [] [] = Unit {0}
AreLiterals [] (value ∷ values) = ⊥
AreLiterals (w ∷ words) [] = ⊥
AreLiterals (w ∷ words) (value ∷ values) = IsLiteral w value × AreLiterals words values
