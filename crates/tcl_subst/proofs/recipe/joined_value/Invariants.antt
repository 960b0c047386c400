use Rattle.std.proofs.Common.{◌≡◌, drop}
use Rattle.tcl_subst.specs.Recipes.{nothing}
use Rattle.tcl_subst.specs.Rests.{rest_of_steps}
use Rattle.tcl_subst.proofs.recipe.joined_value.Given as goal

abbrev pub invariant-loop-step : goal.invariant-loop-step
invariant-loop-step l = record {
  same : l.vars ≡ l.fn.vars;
  rest : rest_of_steps (drop l.step-index l.steps) l.joined l.fn.vars ≡ rest_of_steps l.fn.steps nothing l.fn.vars;
}
