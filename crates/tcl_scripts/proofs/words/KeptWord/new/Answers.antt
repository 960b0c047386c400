use Rattle.std.proofs.Common.{◌≡◌, [], ap, ◌∙◌}
use Rattle.tcl_words.specs.Pieces.{word_view}
use Rattle.tcl_subst.specs.declared.recipe.Recipe.{Recipe}
use Rattle.tcl_subst.specs.Recipes.{steps_onto}
use Rattle.tcl_scripts.proofs.Keeping.{spelled, kept_pieces, kept_steps}
use Rattle.tcl_scripts.proofs.words.KeptWord.new.Goals as goal

pub invariant_of-result : goal.invariant_of-result
invariant_of-result c =
    let e : c.in_ok-new.field-0.value.steps.items ≡ steps_onto (word_view c.args.word.now).pieces [] = ap (λ (r : Recipe). r.steps.items) c.in_ok-new.ensures.ok ∙ c.in_ok-recipe.ensures in
    kept_steps _ _ e

pub returns : goal.returns
returns c =
    let e : c.in_ok-new.field-0.value.steps.items ≡ steps_onto (word_view c.args.word.now).pieces [] = ap (λ (r : Recipe). r.steps.items) c.in_ok-new.ensures.ok ∙ c.in_ok-recipe.ensures in
    ap (spelled c.args.word.now.expand) (kept_pieces _ _ e)
