use Rattle.std.proofs.Common.{◌≡◌, ℕ, List, [], ◌∷◌, true, sym, subst, ◌∙◌}
use Rattle.tcl_words.specs.Pieces.{literal, variable, no_pieces, piece}
use Rattle.tcl_subst.specs.declared.recipe.Step.{Step}
use Rattle.tcl_subst.specs.declared.recipe.Step.TheVariants.{Text, Variable}
use Rattle.tcl_subst.specs.Filling.{fill}
use Rattle.tcl_subst.specs.Plain.{TellsValue}
use Rattle.tcl_subst.proofs.OnePart.{told_alike, told_alike_if, joined_told_if, not_one, one_item}
use Rattle.tcl_subst.proofs.recipe.Recipe.plain_value.Goals as goal

pub returns-then-steps-ne1-clause-value : goal.returns-then-steps-ne1-clause-value
returns-then-steps-ne1-clause-value c = λ ps is.
    let steps = c.as_slice-steps.result.now in
    joined_told_if c.joined_value.result ps steps c.args.vars.now (c.as_slice-steps.ensures.value ∙ is) (not_one steps c.if-steps-ne1.true) c.joined_value.ensures.value

pub returns-in_ok-shared-in-Text-clause-value : goal.returns-in_ok-shared-in-Text-clause-value
returns-in_ok-shared-in-Text-clause-value c = λ ps is.
    let step = c.index-steps-0.result in
    let alone : c.as_slice-steps.result.now ≡ step ∷ [] = one_item c.as_slice-steps.result.now step c.index-steps-0.is c.if-steps-ne1.false in
    let one : c.as_slice-steps.result.now ≡ Text c.in-Text.text ∷ [] = subst (λ (s : Step). c.as_slice-steps.result.now ≡ s ∷ []) c.in-Text.is alone in
    told_alike c.literal_value.result ps (piece (literal c.in-Text.text) no_pieces) c.args.vars.now (sym is ∙ sym c.as_slice-steps.ensures.value ∙ one)
    (subst (λ (t : List ℕ). TellsValue c.literal_value.result true (fill (piece (literal t) no_pieces) c.args.vars.now)) c.in_ok-shared-in-Text.ensures (c.literal_value.ensures c.args.vars.now))

pub returns-in-Variable-clause-value : goal.returns-in-Variable-clause-value
returns-in-Variable-clause-value c = λ ps is.
    let step = c.index-steps-0.result in
    let name = c.as_slice.result.now in
    let alone : c.as_slice-steps.result.now ≡ step ∷ [] = one_item c.as_slice-steps.result.now step c.index-steps-0.is c.if-steps-ne1.false in
    let one : c.as_slice-steps.result.now ≡ Variable c.in-Variable.name ∷ [] = subst (λ (s : Step). c.as_slice-steps.result.now ≡ s ∷ []) c.in-Variable.is alone in
    let called : c.as_slice-steps.result.now ≡ Variable name ∷ [] = subst (λ (t : List ℕ). c.as_slice-steps.result.now ≡ Variable t ∷ []) (sym c.as_slice.ensures) one in
    told_alike_if c.variable_value.result ps (piece (variable name) no_pieces) c.args.vars.now (sym is ∙ sym c.as_slice-steps.ensures.value ∙ called) c.variable_value.ensures.value
