-- What each step keeps, whatever child it is about, each call keeps.
use Rattle.std.proofs.Common.{◌≡◌, ℕ, List, Option, Some, None, refl}
use Rattle.tcl_subst.specs.Variables.{Variables}
use Rattle.tcl_host.specs.Calls.{Call}
use Rattle.expect_core.specs.declared.plan.Plan.{Plan}
use Rattle.expect_core.specs.declared.phase.Phase.{Phase}
use Rattle.expect_core.specs.declared.phase.Phase.TheVariants.{Idle, At}
use Rattle.expect_core.specs.declared.effect.Effect.{Effect}
use Rattle.expect_core.specs.declared.turn.Want.TheVariants.{Answer, Item, Output, End}
use Rattle.expect_core.specs.declared.dialogue.Dialogue.{Dialogue}
use Rattle.expect_core.specs.Answered.{idle, owning}
use Rattle.expect_core.specs.Effects.{performed}
use Rattle.expect_core.specs.Calls.{outcome}
use Rattle.expect_core.proofs.Stepping.{ChildOf, PhaseOf, Kept, performs}
use Rattle.expect_core.proofs.Calling.{CalledAfter, MayAnswer, outcome_keeps}
use Rattle.expect_core.proofs.Speaking.{opens}

abbrev pub Any : ℕ → Type 0
Any i = Unit {0}

abbrev pub AnyEnd : ℕ → Plan → Type 0
AnyEnd i p = Unit {0}

any_phase : (f : Phase) → PhaseOf Any AnyEnd f
any_phase Idle = tt
any_phase (At n (Answer i why)) = tt
any_phase (At n (Item i why)) = tt
any_phase (At n (Output p)) = λ i part. tt
any_phase (At n (End i p)) = (tt, (λ i part. tt), tt)

any_child : (at : Option ℕ) → ChildOf Any AnyEnd at
any_child None = tt
any_child (Some i) = tt

module _ (P : Dialogue → Type 0) (k : Kept Any P) where
  pub any_outcome : (call : Call) (st : Dialogue) → P (idle st) → CalledAfter Any AnyEnd (λ i p w. tt) P k call (outcome call st)
  any_outcome call st held = outcome_keeps Any AnyEnd (λ i p w. tt) P k call st (opens Any AnyEnd call st (λ i among. tt) (λ room. tt) (λ leaves. any_phase st.phase)) held

  pub any_performs : (at : Option ℕ) (xs : List Effect) (vars : Variables) (st : Dialogue) → P st → P (owning (performed at xs vars st.own).2 st)
  any_performs at xs vars st held = performs Any AnyEnd (λ i p w. tt) P k at xs vars st (any_child at) held

-- no call changes the limit, the greatest moment and whether the dialogue lives

abbrev pub Steady : Dialogue → Dialogue → Type 0
Steady old st = (st.limit ≡ old.limit) × (st.horizon ≡ old.horizon) × (st.lives ≡ old.lives)

pub steady : (old : Dialogue) → Kept Any (Steady old)
steady old = record {
  does = λ at x st a k. k;
  holds = λ p st a k. k;
  reads = λ st k. k;
  pops = λ st k. k;
  types = λ i text st a k. k;
  trims = λ i st a k. k;
  receives = λ i piece st a k. k;
  takes = λ i q qs st a is k. k;
  answers = λ i x l st a is k. k;
  times = λ d st le k. k;
}

pub steady_outcome : (call : Call) (st : Dialogue) → let r = outcome call st in Steady st r.2 × MayAnswer r.0 call r.2
steady_outcome call st = let k = any_outcome (Steady st) (steady st) call st (refl, refl, refl) in (k.0, k.2)
