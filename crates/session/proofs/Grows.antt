-- More events only make a waiting script go on.
use Rattle.std.proofs.Common.{◌≡◌, ◌⊎◌, inl, inr, ℕ, ◌-◌, Bool, List, ◌++◌, refl, sym, ap, subst}
use Rattle.child_events.specs.declared.event.Event.{Event}
use Rattle.tcl_subst.specs.Variables.{Variables}
use Rattle.tcl_host.specs.declared.ending.Ending.TheVariants as ending
use Rattle.tcl_host.specs.declared.host.HostStep.TheVariants.{Done, Fail, Body, Words, Wait, Stop, Unknown, Memory}
use Rattle.tcl_host.specs.Calls.{Call, Begin, Resume, AfterWords, AfterBody, Knows, Reply, Stepped, Known}
use Rattle.tcl_eval.specs.Tree.{Tree, Over, Ask}
use Rattle.expect_core.specs.declared.own.Own.{Own}
use Rattle.expect_core.specs.declared.settings.Settings.{Settings}
use Rattle.expect_core.specs.declared.dialogue.Dialogue.{Dialogue}
use Rattle.expect_core.specs.Lanes.{extended}
use Rattle.expect_core.specs.Answered.{Outcome}
use Rattle.expect_core.specs.Calls.{outcome, knows, fresh}
use Rattle.expect_core.specs.Good.{Good}
use Rattle.expect_core.specs.Laws.{IsFront, Keeps}
use Rattle.expect_core.proofs.Goodness.{GoodAfter, outcome_good, good_fresh}
use Rattle.expect_core.proofs.Fronts.{KeptAfter, front_same, keeps_same, outcome_kept}
use Rattle.session.specs.declared.report.Report.{Report}
use Rattle.session.specs.Play.{behind, ending_of, fault_of, trail_of, play, told}
use Rattle.session.specs.Meaning.{steps_of, tree_of, meaning}
use Rattle.session.specs.Growth.{Continues, EndingStays, OnlyGrows}
use Rattle.session.proofs.Suspending.{onwards, outcomes_onward, good_extended}
use Rattle.session.proofs.Lefts.{own_extended, extended_append, said_extended}

-- a report has what was asked and told before
abbrev Since : Own → Report → Type 0
Since o r = IsFront o.requests r.requests × IsFront o.transcript r.transcript

behind_since : (o : Own) (steps : ℕ) (more : Reply → Dialogue → Report) (x : Outcome) → KeptAfter o x → ((r : Reply) (d : Dialogue) → Keeps o d.own → Since o (more r d)) → Since o (behind steps more x)
behind_since o steps more (Wait, vars, st) k since = k
behind_since o steps more (Done c v, vars, st) k since = since (Stepped (Done c v) vars) st k
behind_since o steps more (Fail t, vars, st) k since = since (Stepped (Fail t) vars) st k
behind_since o steps more (Body t, vars, st) k since = since (Stepped (Body t) vars) st k
behind_since o steps more (Words t, vars, st) k since = since (Stepped (Words t) vars) st k
behind_since o steps more (Stop e, vars, st) k since = since (Stepped (Stop e) vars) st k
behind_since o steps more (Unknown, vars, st) k since = since (Stepped Unknown vars) st k
behind_since o steps more (Memory, vars, st) k since = since (Stepped Memory vars) st k

pub play_since : (o : Own) (bound : ℕ) (t : Tree) (d : Dialogue) → Keeps o d.own → Since o (play bound t d)
play_since o bound (Over e s) d k = k
play_since o bound (Ask (Knows word) left go) d k = play_since o bound (go (Known (knows word))) d k
play_since o bound (Ask (Begin words vars) left go) d k = behind_since o (bound - left) (λ r. play bound (go r)) _ (outcome_kept o (Begin words vars) d k) (λ r. play_since o bound (go r))
play_since o bound (Ask (Resume vars) left go) d k = behind_since o (bound - left) (λ r. play bound (go r)) _ (outcome_kept o (Resume vars) d k) (λ r. play_since o bound (go r))
play_since o bound (Ask (AfterWords words vars) left go) d k = behind_since o (bound - left) (λ r. play bound (go r)) _ (outcome_kept o (AfterWords words vars) d k) (λ r. play_since o bound (go r))
play_since o bound (Ask (AfterBody c v vars) left go) d k = behind_since o (bound - left) (λ r. play bound (go r)) _ (outcome_kept o (AfterBody c v vars) d k) (λ r. play_since o bound (go r))

-- the second report is the first, or the first waits and the second continues it
abbrev Grows : Report → Report → Type 0
Grows first second = (second ≡ first) ⊎ ((first.ending ≡ ending.Waiting) × Continues first second)

continues : (first second : Report) → IsFront first.requests second.requests × IsFront first.transcript second.transcript → Continues first second
continues first second f = record { more = f.0.more; asked = f.0.joined; further = f.1.more; told = f.1.joined }

-- with these events more
module _ (es : List Event) where
  resumed_keeps : (vars : Variables) (d : Dialogue) → KeptAfter d.own (outcome (Resume vars) (extended es d))
  resumed_keeps vars d = outcome_kept d.own (Resume vars) (extended es d) (subst (Keeps d.own) (sym (own_extended es d)) (keeps_same d.own))

  module _ (steps : ℕ) (more : Reply → Dialogue → Report) (since : (o : Own) (r : Reply) (d : Dialogue) → Keeps o d.own → Since o (more r d)) (grows : (r : Reply) (d : Dialogue) → Good d → Grows (more r d) (more r (extended es d))) where
    behind_grows : (x : Outcome) → GoodAfter x → Grows (behind steps more x) (behind steps more (onwards es x))
    behind_grows (Wait, vars, st) g = inr (refl, continues _ _ (behind_since st.own steps more _ (resumed_keeps vars st) (since st.own)))
    behind_grows (Done c v, vars, st) g = grows (Stepped (Done c v) vars) st g
    behind_grows (Fail t, vars, st) g = grows (Stepped (Fail t) vars) st g
    behind_grows (Body t, vars, st) g = grows (Stepped (Body t) vars) st g
    behind_grows (Words t, vars, st) g = grows (Stepped (Words t) vars) st g
    behind_grows (Stop e, vars, st) g = grows (Stepped (Stop e) vars) st g
    behind_grows (Unknown, vars, st) g = grows (Stepped Unknown vars) st g
    behind_grows (Memory, vars, st) g = grows (Stepped Memory vars) st g

    call_grows : (call : Call) (d : Dialogue) → Good d → Grows (behind steps more (outcome call d)) (behind steps more (outcome call (extended es d)))
    call_grows call d g =
        subst (λ (x : Outcome). Grows (behind steps more (outcome call d)) (behind steps more x)) (sym (outcomes_onward es call d g))
        (behind_grows (outcome call d) (outcome_good call d g))

  play_grows : (bound : ℕ) (t : Tree) (d : Dialogue) → Good d → Grows (play bound t d) (play bound t (extended es d))
  play_grows bound (Over e s) d g = inl (said_extended (ending_of e) (fault_of e) (trail_of e s.trail) (bound - s.left) s.vars es d)
  play_grows bound (Ask (Knows word) left go) d g = play_grows bound (go (Known (knows word))) d g
  play_grows bound (Ask (Begin words vars) left go) d g =
      call_grows (bound - left) (λ r. play bound (go r)) (λ o r. play_since o bound (go r)) (λ r. play_grows bound (go r)) (Begin words vars) d g
  play_grows bound (Ask (Resume vars) left go) d g =
      call_grows (bound - left) (λ r. play bound (go r)) (λ o r. play_since o bound (go r)) (λ r. play_grows bound (go r)) (Resume vars) d g
  play_grows bound (Ask (AfterWords words vars) left go) d g =
      call_grows (bound - left) (λ r. play bound (go r)) (λ o r. play_since o bound (go r)) (λ r. play_grows bound (go r)) (AfterWords words vars) d g
  play_grows bound (Ask (AfterBody c v vars) left go) d g =
      call_grows (bound - left) (λ r. play bound (go r)) (λ o r. play_since o bound (go r)) (λ r. play_grows bound (go r)) (AfterBody c v vars) d g

-- whether variables are told changes nothing in it
told_grows : (tells : Bool) (first second : Report) → Grows first second → Grows (told tells first) (told tells second)
told_grows tells first second (inl same) = inl (ap (told tells) same)
told_grows tells first second (inr grown) = inr (grown.0, record { more = grown.1.more; asked = grown.1.asked; further = grown.1.further; told = grown.1.told })

meaning_grows : (source : List ℕ) (settings : Settings) (events later : List Event) → Grows (meaning source settings events) (meaning source settings (events ++ later))
meaning_grows source settings events later =
    let first : Dialogue = fresh settings in
    subst (λ (d : Dialogue). Grows (meaning source settings events) (told settings.tells_vars (play (steps_of settings.steps) (tree_of source settings) d))) (extended_append events later first)
    (told_grows settings.tells_vars _ _ (play_grows later (steps_of settings.steps) (tree_of source settings) (extended events first) (good_extended events first (good_fresh settings))))

pub ending_stays : EndingStays
ending_stays source settings events later ends = elim (meaning_grows source settings events later) [
  | inl same ↦ same
  | inr grown ↦ absurd (ends grown.0)
]

continued : (first second : Report) → Grows first second → Continues first second
continued first second (inl same) = subst (Continues first) (sym same) (continues first first (front_same first.requests, front_same first.transcript))
continued first second (inr grown) = grown.1

pub only_grows : OnlyGrows
only_grows source settings events later = continued _ _ (meaning_grows source settings events later)
