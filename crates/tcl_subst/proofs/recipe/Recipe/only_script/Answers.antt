use Rattle.std.proofs.Common.{◌≡◌, [], ◌∷◌, sym, subst, ◌∙◌, arith}
use Rattle.tcl_words.specs.Pieces.{script, no_pieces, piece}
use Rattle.tcl_subst.specs.declared.recipe.Step.{Step}
use Rattle.tcl_subst.specs.declared.recipe.Step.TheVariants.{Script}
use Rattle.tcl_subst.specs.Variables.{Variables}
use Rattle.tcl_subst.proofs.OnePart.{fills_alike, only_item}
use Rattle.tcl_subst.proofs.recipe.Recipe.only_script.Goals as goal

pub returns-in-Script : goal.returns-in-Script
returns-in-Script c = λ ps is.
    let step = c.step-item.result in
    let alone : c.as_slice.result.now ≡ step ∷ [] = only_item c.as_slice.result.now step c.step-item.is (omega (arith, c.in-len1.len_at_least)) (omega (arith, c.in-len1.len_below)) in
    let one : c.as_slice.result.now ≡ Script c.in-Script.text ∷ [] = subst (λ (s : Step). c.as_slice.result.now ≡ s ∷ []) c.in-Script.is alone in
    λ (vars : Variables). fills_alike ps (piece (script c.in-Script.text) no_pieces) vars (sym is ∙ sym c.as_slice.ensures.value ∙ one)
