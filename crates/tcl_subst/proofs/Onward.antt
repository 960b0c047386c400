-- A script that is asked for is behind the place from then on.
use Rattle.std.proofs.Common.{◌≡◌, ℕ, ◌+◌, ◌≤◌, List, [], ◌∷◌, drop, Option, Some, None, Result, Ok, Err, ap, arith}
use Rattle.tcl_subst.specs.declared.fill_step.FillStep.{FillStep}
use Rattle.tcl_subst.specs.declared.fill_step.FillStep.TheVariants.{Value, NeedScript, Fault}
use Rattle.tcl_subst.specs.declared.joined.Joined.{Joined}
use Rattle.tcl_subst.specs.declared.joined.Refusal.{Refusal}
use Rattle.tcl_subst.specs.declared.recipe.Step.{Step}
use Rattle.tcl_subst.specs.declared.recipe.Step.TheVariants.{Text, Variable, Script, Open, Close}
use Rattle.tcl_subst.specs.Recipes.{Filling, IsOnward, taken, placed, on_taken, run, filling}
use Rattle.tcl_subst.specs.Variables.{Variables}

number_of : FillStep → ℕ
number_of (Value value) = 0
number_of (NeedScript n) = n
number_of (Fault fault) = 0

asked_here : (steps : List Step) (at : ℕ) (j : Joined) (n : ℕ) → NeedScript at ≡ NeedScript n → (at ≤ n) × ((placed steps (at + 1) j).at ≡ n + 1)
unfolding number_of
asked_here steps at j n is = let e : at ≡ n = ap number_of is in (omega (arith, e), ap (λ m. m + 1) e)

onward_taken : (steps : List Step) (at : ℕ) (left : List Step) (vars : Variables) (r : Result Joined Refusal) (n : ℕ)
    → ((j : Joined) → (run steps (at + 1) left j vars).0 ≡ NeedScript n → (at + 1 ≤ n) × ((run steps (at + 1) left j vars).1.at ≡ n + 1))
    → (on_taken steps at r (λ j. run steps (at + 1) left j vars)).0 ≡ NeedScript n
    → (at ≤ n) × ((on_taken steps at r (λ j. run steps (at + 1) left j vars)).1.at ≡ n + 1)
onward_taken steps at left vars (Ok j) n on is = let p = on j is in (omega (arith, p.0), p.1)
onward_taken steps at left vars (Err r) n on is = absurd (cc)

onward_run : (steps : List Step) (at : ℕ) (left : List Step) (j : Joined) (vars : Variables) (n : ℕ) → (run steps at left j vars).0 ≡ NeedScript n
    → (at ≤ n) × ((run steps at left j vars).1.at ≡ n + 1)
onward_run steps at [] j vars n is = absurd (cc)
onward_run steps at (Text text ∷ left) j vars n is = onward_taken steps at left vars (taken (Text text) j vars) n (λ j. onward_run steps (at + 1) left j vars n) is
onward_run steps at (Variable name ∷ left) j vars n is = onward_taken steps at left vars (taken (Variable name) j vars) n (λ j. onward_run steps (at + 1) left j vars n) is
onward_run steps at (Script text ∷ left) j vars n is = asked_here steps at j n is
onward_run steps at (Open ∷ left) j vars n is = onward_taken steps at left vars (taken Open j vars) n (λ j. onward_run steps (at + 1) left j vars n) is
onward_run steps at (Close array ∷ left) j vars n is = onward_taken steps at left vars (taken (Close array) j vars) n (λ j. onward_run steps (at + 1) left j vars n) is

onward_by : (steps : List Step) (at : ℕ) (j : Joined) (fault : Option Refusal) (vars : Variables)
    → IsOnward (record { steps = steps; at = at; joined = j; fault = fault }) (filling (record { steps = steps; at = at; joined = j; fault = fault }) vars)
unfolding filling
onward_by steps at j None vars = λ n is. onward_run steps at (drop at steps) j vars n is
onward_by steps at j (Some r) vars = λ n is. absurd (cc)

pub is_onward : (f : Filling) (vars : Variables) → IsOnward f (filling f vars)
is_onward f vars = onward_by f.steps f.at f.joined f.fault vars
