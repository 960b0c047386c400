-- The rest of a substitution.
use Rattle.std.specs.Prelude.{List, [], ◌∷◌, drop, Option, Some, None, Result, Ok, Err, unwrap_or}
use Rattle.tcl_subst.specs.declared.faults.SubstFault.{SubstFault}
use Rattle.tcl_subst.specs.declared.joined.Joined.{Joined}
use Rattle.tcl_subst.specs.declared.joined.Refusal.{Refusal}
use Rattle.tcl_subst.specs.declared.recipe.Step.{Step}
use Rattle.tcl_subst.specs.declared.recipe.Step.TheVariants.{Text, Variable, Script, Open, Close}
use Rattle.tcl_subst.specs.declared.fill_step.FillStep.{FillStep}
use Rattle.tcl_subst.specs.declared.fill_step.FillStep.TheVariants.{Value, NeedScript, Fault}
use Rattle.tcl_subst.specs.Filling.{Fill, Full, Asks, Failed}
use Rattle.tcl_subst.specs.Recipes.{Filling, fault_of, name_of, joined, taken, script_at, given}
use Rattle.tcl_subst.specs.Variables.{Variables}

abbrev pub after : Result Joined Refusal → (Joined → Variables → Fill) → Variables → Fill
after (Ok j) k vars = k j vars
after (Err r) k vars = Failed (fault_of r) (name_of r)

abbrev pub rest_of_step : Step → Joined → (Joined → Variables → Fill) → Variables → Fill
rest_of_step (Text text) j k vars = after (taken (Text text) j vars) k vars
rest_of_step (Variable name) j k vars = after (taken (Variable name) j vars) k vars
rest_of_step (Script text) j k vars = Asks text (λ value vars. after (joined value j) k vars)
rest_of_step Open j k vars = after (taken Open j vars) k vars
rest_of_step (Close array) j k vars = after (taken (Close array) j vars) k vars

abbrev pub rest_of_steps : List Step → Joined → Variables → Fill
rest_of_steps [] j vars = Full j.current
rest_of_steps (s ∷ left) j vars = rest_of_step s j (λ j vars. rest_of_steps left j vars) vars

abbrev pub rest_unless_failed : Option Refusal → Filling → Variables → Fill
rest_unless_failed None f vars = rest_of_steps (drop f.at f.steps) f.joined vars
rest_unless_failed (Some r) f vars = Failed (fault_of r) (name_of r)

-- The substitution that a filler in this state still performs.
abbrev pub rest : Filling → Variables → Fill
rest f vars = rest_unless_failed f.fault f vars

abbrev pub failure : SubstFault → Option Refusal → Fill
failure fault None = Failed fault []
failure fault (Some r) = Failed fault (name_of r)

-- The substitution, given a filler's result.
abbrev pub told : FillStep × Filling → Fill
told (Value value, f) = Full value
told (NeedScript n, f) = Asks (unwrap_or (script_at n f.steps) []) (λ value vars. rest (given value f) vars)
told (Fault fault, f) = failure fault f.fault
