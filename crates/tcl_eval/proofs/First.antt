-- A filler that was just begun comes to what its word does.
use Rattle.std.proofs.Common.{◌≡◌, ℕ, List, [], ◌∙◌, ap}
use Rattle.tcl_words.specs.Pieces.{Pieces, Spelled}
use Rattle.tcl_subst.specs.declared.fill_step.FillStep.TheVariants.{NeedScript}
use Rattle.tcl_subst.specs.Filling.{Fill, Full as Filled, Asks, Failed as Unfilled, fill}
use Rattle.tcl_subst.specs.Recipes.{Filling, begun, steps_onto}
use Rattle.tcl_subst.specs.Rests.{rest, told}
use Rattle.tcl_subst.specs.Variables.{Variables}
use Rattle.tcl_eval.specs.Advanced.{Fills}
use Rattle.tcl_eval.specs.Alone.{WaitsAlone, asks_alone}

pub fills_first : ((ps : Pieces) (vars : Variables) → rest (begun (steps_onto ps [])) vars ≡ fill ps vars) → (f : Filling) (w : Spelled) → f ≡ begun (steps_onto w.pieces []) → Fills f w
fills_first law f w e vars = ap (λ f. rest f vars) e ∙ law w.pieces vars

-- what follows the value of a script
abbrev following : Fill → List ℕ → Variables → Fill
following (Filled v) value vars = Filled v
following (Asks text more) value vars = more value vars
following (Unfilled f name) value vars = Unfilled f name

-- what fills a word that is one script alone, once it needs that
pub waits_alone : (f : Filling) (n : ℕ) (text : List ℕ) → told (NeedScript n, f) ≡ asks_alone text → WaitsAlone f
waits_alone f n text is = λ value at. ap (λ (x : Fill). following x value at) is
