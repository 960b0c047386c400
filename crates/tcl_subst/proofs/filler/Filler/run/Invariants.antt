use Rattle.std.proofs.Common.{◌≡◌, ◌-◌, length, None}
use Rattle.tcl_subst.specs.Recipes.{run_on}
use Rattle.tcl_subst.proofs.filler.Filler.run.Given as goal

abbrev pub invariant-steps : goal.invariant-steps
invariant-steps l = (run_on l.initial.self l.initial.vars ≡ run_on l.self l.vars) × (l.self.steps ≡ l.initial.self.steps) × (l.self.fault ≡ None) × (l.vars ≡ l.initial.vars)

abbrev pub decreases-steps : goal.decreases-steps
decreases-steps l = length l.self.steps - l.self.at
