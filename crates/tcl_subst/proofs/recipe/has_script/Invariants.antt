use Rattle.std.proofs.Common.{◌≡◌, drop}
use Rattle.std.specs.List.{list_any}
use Rattle.tcl_subst.specs.Recipes.{is_script}
use Rattle.tcl_subst.proofs.recipe.has_script.Given as goal

abbrev pub invariant-loop-step : goal.invariant-loop-step
invariant-loop-step l = list_any is_script (drop l.step-index l.steps) ≡ list_any is_script l.steps
