use Rattle.std.proofs.Common.{◌≡◌, List, [], ap, ◌∙◌}
use Rattle.tcl_words.specs.Pieces.{word_view}
use Rattle.tcl_subst.specs.declared.recipe.Recipe.{Recipe}
use Rattle.tcl_subst.specs.declared.recipe.Step.{Step}
use Rattle.tcl_subst.specs.Recipes.{begun, steps_onto}
use Rattle.tcl_eval.proofs.begun.operand_filler.Goals as goal

pub returns : goal.returns
returns c =
    let steps : c.in_ok-new.field-0.value.steps.items ≡ steps_onto (word_view c.args.word.now).pieces [] = ap (λ (r : Recipe). r.steps.items) c.in_ok-new.ensures.ok ∙ c.in_ok-recipe.ensures in
    c.first.ensures (word_view c.args.word.now) (c.new-filler.ensures ∙ ap (λ (s : List Step). begun s) steps)
