-- Behind the last moment of the settings no call waits.
use Rattle.std.proofs.Common.{◌≡◌, ℕ, true, false, Option, Some, None, ap, ◌∙◌}
use Rattle.std.specs.Prelude.{nat_le}
use Rattle.tcl_subst.specs.Variables.{Variables}
use Rattle.tcl_host.specs.declared.host.HostStep.{HostStep}
use Rattle.tcl_host.specs.declared.host.HostStep.TheVariants.{Wait}
use Rattle.tcl_host.specs.Calls.{Call}
use Rattle.expect_core.specs.declared.phase.Phase.{Phase}
use Rattle.expect_core.specs.declared.phase.Phase.TheVariants.{Idle, At}
use Rattle.expect_core.specs.declared.phase.Heard.TheVariants.{NotYet}
use Rattle.expect_core.specs.declared.turn.Want.{Want}
use Rattle.expect_core.specs.declared.turn.Want.TheVariants as want
use Rattle.expect_core.specs.declared.dialogue.Dialogue.{Dialogue}
use Rattle.expect_core.specs.Heard.{at_most, lapse}
use Rattle.expect_core.specs.Answered.{Outcome}
use Rattle.expect_core.specs.Calls.{outcome}
use Rattle.expect_core.proofs.Asleep.{both_true, is_true}
use Rattle.expect_core.proofs.Resting.{WantRests, AsleepIn}
use Rattle.expect_core.proofs.Calling.{MayAnswer}
use Rattle.expect_core.proofs.Steady.{steady_outcome}

-- the greatest moment is past the last one of the settings
abbrev pub Past : Dialogue → Type 0
Past st = at_most st.horizon st.limit ≡ false

-- a call that came to this doesn't wait, and time is still past the limit
abbrev pub PastAfter : Outcome → Type 0
PastAfter (Wait, vars, st) = ⊥
PastAfter (step, vars, st) = Past st

-- time has not run out for what waits
lasts : (limit : Option ℕ) (h : ℕ) (d : Option ℕ) → lapse limit h d ≡ NotYet → at_most h limit ≡ true
lasts limit h None e = is_true (at_most h limit) e
lasts limit h (Some d) e = (both_true (nat_le h d) (at_most h limit) (at_most d limit) d e).1

in_time : (w : Want) (st : Dialogue) → WantRests w st → at_most st.horizon st.limit ≡ true
in_time (want.Answer i why) st rests = rests.1
in_time (want.Item i why) st rests = rests.1
in_time (want.End i p) st rests = rests.1
in_time (want.Output p) st rests = lasts st.limit st.horizon p.deadline rests.1

asleep_past : (f : Phase) (st : Dialogue) → AsleepIn f st → Past st → ⊥
asleep_past Idle st asleep k = asleep
asleep_past (At n w) st asleep k = let yet = in_time w st asleep in absurd (cc)

past_after : (call : Call) (s : HostStep) (vars : Variables) (st : Dialogue) → MayAnswer s call st → Past st → PastAfter (s, vars, st)
past_after call Wait vars st may k = asleep_past st.phase st may k
past_after call _ vars st may k = k

pub outcome_past : (call : Call) (st : Dialogue) → Past st → PastAfter (outcome call st)
outcome_past call st k =
    let r = outcome call st in
    let s = steady_outcome call st in
    past_after call r.0 r.1 r.2 s.1 (ap (λ (h : ℕ). at_most h r.2.limit) s.0.1 ∙ ap (λ (l : Option ℕ). at_most st.horizon l) s.0.0 ∙ k)
