use Rattle.std.proofs.Common.{◌≡◌, ℕ, List, [], ◌∷◌, true, sym, subst, ◌∙◌, arith}
use Rattle.tcl_words.specs.Pieces.{literal, no_pieces, piece}
use Rattle.tcl_subst.specs.declared.recipe.Step.{Step}
use Rattle.tcl_subst.specs.declared.recipe.Step.TheVariants.{Text}
use Rattle.tcl_subst.specs.Filling.{fill}
use Rattle.tcl_subst.specs.Plain.{TellsValue}
use Rattle.tcl_subst.specs.Variables.{Variables}
use Rattle.tcl_subst.proofs.OnePart.{always_told, only_item}
use Rattle.tcl_subst.proofs.recipe.Recipe.literal.Goals as goal

pub returns-in_ok-shared-in-Text : goal.returns-in_ok-shared-in-Text
returns-in_ok-shared-in-Text c = λ ps is.
    let step = c.step-item.result in
    let alone : c.as_slice.result.now ≡ step ∷ [] = only_item c.as_slice.result.now step c.step-item.is (omega (arith, c.in-len1.len_at_least)) (omega (arith, c.in-len1.len_below)) in
    let one : c.as_slice.result.now ≡ Text c.in-Text.text ∷ [] = subst (λ (s : Step). c.as_slice.result.now ≡ s ∷ []) c.in-Text.is alone in
    always_told c.literal_value.result ps (piece (literal c.in-Text.text) no_pieces) (sym is ∙ sym c.as_slice.ensures.value ∙ one)
    (λ (vars : Variables). subst (λ (t : List ℕ). TellsValue c.literal_value.result true (fill (piece (literal t) no_pieces) vars)) c.in_ok-shared-in-Text.ensures (c.literal_value.ensures vars))
