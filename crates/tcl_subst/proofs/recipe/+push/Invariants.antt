use Rattle.std.proofs.Common.{◌≡◌, [], ◌++◌, drop}
use Rattle.tcl_words.specs.Pieces.{parts_view}
use Rattle.tcl_subst.specs.Recipes.{steps_onto}
use Rattle.tcl_subst.proofs.recipe.+push.Given as goal

abbrev pub invariant-push_parts-loop-part : goal.invariant-push_parts-loop-part
invariant-push_parts-loop-part l =
    l.steps.items ++ steps_onto (parts_view (drop l.part-index l.parts)) [] ≡ l.initial.steps.items ++ steps_onto (parts_view l.parts) []
