-- Words that are exactly one command substitution.
use Rattle.std.specs.Prelude.{◌≡◌, ℕ, List, []}
use Rattle.tcl_subst.specs.Filling.{Fill, Full, Asks, behind}
use Rattle.tcl_subst.specs.Recipes.{Filling, given}
use Rattle.tcl_subst.specs.Rests.{rest}
use Rattle.tcl_subst.specs.Variables.{Variables}

-- The substitution of such a word, given the value of its script.
abbrev pub alone : List ℕ → Fill
alone value = behind [] value (λ text. Full text)

-- The substitution of such a word.
abbrev pub asks_alone : List ℕ → Fill
asks_alone text = Asks text (λ value vars. alone value)

-- The filler of such a word waits for that value.
abbrev pub WaitsAlone : Filling → Type 0
WaitsAlone f = (value : List ℕ) (vars : Variables) → rest (given value f) vars ≡ alone value
