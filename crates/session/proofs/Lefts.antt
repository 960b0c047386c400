-- What a session says, before and behind events.
use Rattle.std.proofs.Common.{◌≡◌, ℕ, zero, suc, ◌+◌, Bool, false, List, [], ◌∷◌, ◌++◌, length, drop, Some, None, refl, sym, ap, ◌∙◌, arith}
use Rattle.std.specs.Prelude.{IsTrue, ◌↔◌, map, slice_get, ◌≤◌, ◌-◌}
use Rattle.std.proofs.lemmas.List.{drop-drop}
use Rattle.child_events.specs.declared.event.Event.{Event}
use Rattle.tcl_subst.specs.Report.{values_of}
use Rattle.tcl_subst.specs.Variables.{Variables}
use Rattle.tcl_host.specs.declared.ending.Ending.{Ending}
use Rattle.tcl_eval.specs.declared.engine.Engine.{Engine}
use Rattle.tcl_eval.specs.declared.frame.Mode.{Mode}
use Rattle.tcl_eval.specs.declared.frame.Mode.TheVariants.{Ended}
use Rattle.tcl_eval.specs.Rest.{engine_rest}
use Rattle.tcl_eval.specs.Steps.{left_of}
use Rattle.tcl_eval.specs.Suspended.{IsOver}
use Rattle.expect_core.specs.declared.own.Own.{Own}
use Rattle.expect_core.specs.declared.request.Request.{Request}
use Rattle.expect_core.specs.declared.dialogue.Dialogue.{Dialogue}
use Rattle.expect_core.specs.declared.phase.Phase.{Phase}
use Rattle.expect_core.specs.Awaited.{starting}
use Rattle.expect_core.specs.Lanes.{offered, extended}
use Rattle.session.specs.declared.place.ErrorPlace.{ErrorPlace}
use Rattle.session.specs.declared.report.Report.{Report}
use Rattle.session.specs.declared.session.Session.TheInside.{Inside}
use Rattle.session.specs.Left.{Kept, left, Fed, HandsOut}
use Rattle.session.specs.Play.{said, ending_of, fault_of, trail_of, play, told}
use Rattle.session.specs.Shown.{shown, Ran}
use Rattle.session.specs.Sound.{Sound, kept_of}

pub own_extended : (es : List Event) (d : Dialogue) → (extended es d).own ≡ d.own
own_extended [] d = refl
own_extended (e ∷ es) d = own_extended es (offered e d)

pub extended_append : (es later : List Event) (d : Dialogue) → extended later (extended es d) ≡ extended (es ++ later) d
extended_append [] later d = refl
extended_append (e ∷ es) later d = extended_append es later (offered e d)

pub phase_extended : (es : List Event) (d : Dialogue) → (extended es d).phase ≡ d.phase
phase_extended [] d = refl
phase_extended (e ∷ es) d = phase_extended es (offered e d)

said_by : Ending → List ℕ → List ErrorPlace → ℕ → Variables → Own → Phase → Report
said_by e fault trail steps vars o at = record {
  ending = e;
  fault = fault;
  trail = trail;
  transcript = o.transcript;
  vars = values_of vars.globals;
  requests = o.requests;
  sent = map (λ child. child.sent) o.children;
  steps = steps;
  starting = starting at;
}

pub said_extended : (e : Ending) (fault : List ℕ) (trail : List ErrorPlace) (steps : ℕ) (vars : Variables) (es : List Event) (d : Dialogue) → said e fault trail steps vars (extended es d) ≡ said e fault trail steps vars d
unfolding said_by
said_extended e fault trail steps vars es d =
    ap (λ (o : Own). said_by e fault trail steps vars o (extended es d).phase) (own_extended es d)
    ∙ ap (λ (at : Phase). said_by e fault trail steps vars d.own at) (phase_extended es d)

-- a run that is over says the same whatever comes
over_says : (bound : ℕ) (engine : Engine) (mode : Mode) (steps : ℕ) (d : Dialogue) (xs ys : List Event) → IsOver mode → play bound (engine_rest engine steps mode) (extended xs d) ≡ play bound (engine_rest engine steps mode) (extended ys d)
over_says bound engine (Ended e) steps d xs ys over = said_extended (ending_of e) (fault_of e) (trail_of e engine.trail) _ engine.vars xs d ∙ sym (said_extended (ending_of e) (fault_of e) (trail_of e engine.trail) _ engine.vars ys d)
over_says bound engine _ steps d xs ys over = absurd over

-- what a test says of a run that isn't over
pub goes_on : (mode : Mode) (b : Bool) → (IsTrue b ↔ IsOver mode) → b ≡ false → IsOver mode → ⊥
goes_on mode b tells differs over = let yes : IsTrue b = tells.1 over in cc

pub passed_over : (k : Kept) (es : List Event) → IsOver k.mode → Fed k es k
unfolding left
passed_over k es over = record {
  handed = refl;
  lived = λ h. h;
  over = λ h. refl;
  says = λ h later. ap (told k.tells) (over_says k.bound k.engine k.mode k.steps k.dialogue later (es ++ later) over);
}

pub fed : (k k' : Kept) (es : List Event) (before : Dialogue) → k'.handed ≡ k.handed → k'.bound ≡ k.bound → k'.tells ≡ k.tells → IsTrue k.lives → (IsOver k.mode → ⊥) → (IsTrue before.lives → before ≡ extended es k.dialogue) → (IsTrue k'.lives → Ran k.engine k.mode k.steps before k'.engine k'.mode k'.steps k'.dialogue) → Fed k es k'
unfolding left
fed k k' es before handed bound tells lives goes came ran = record {
  handed = handed;
  lived = λ h. lives;
  over = λ h. absurd (goes h);
  says = λ h later.
      ap (told k'.tells) (
      (ran h).says k'.bound later
      ∙ ap (λ (d : Dialogue). play k'.bound (engine_rest k.engine k.steps k.mode) (extended later d)) (came (ran h).lived)
      ∙ ap (λ (d : Dialogue). play k'.bound (engine_rest k.engine k.steps k.mode) d) (extended_append es later k.dialogue)
      ∙ ap (λ (n : ℕ). play n (engine_rest k.engine k.steps k.mode) (extended (es ++ later) k.dialogue)) bound
      )
      ∙ ap (λ (tells : Bool). told tells (play k.bound (engine_rest k.engine k.steps k.mode) (extended (es ++ later) k.dialogue))) tells;
}

pub shown_requests : (bound : ℕ) (engine : Engine) (mode : Mode) (steps : ℕ) (d : Dialogue) → (shown bound engine mode steps d).requests ≡ d.own.requests
shown_requests bound engine (Ended e) steps d = refl
shown_requests bound engine _ steps d = refl

-- what is shown is the dialogue's transcript
pub shown_transcript : (bound : ℕ) (engine : Engine) (mode : Mode) (steps : ℕ) (d : Dialogue) → (shown bound engine mode steps d).transcript ≡ d.own.transcript
shown_transcript bound engine (Ended e) steps d = refl
shown_transcript bound engine _ steps d = refl

-- the transcript of a session that lives
pub has_shown : (a : Inside) → Sound a → IsTrue a.lives → a.dialogue.own.transcript ≡ (left (kept_of a) []).transcript
unfolding left
has_shown a sound lives =
    sym (ap (λ (r : Report). r.transcript) (sound.shows lives) ∙ shown_transcript a.bound a.machine.engine a.machine.mode _ a.dialogue)

-- the requests of a session that lives
pub has_asked : (a : Inside) → Sound a → IsTrue a.lives → a.dialogue.own.requests ≡ (left (kept_of a) []).requests
unfolding left
has_asked a sound lives =
    sym (ap (λ (r : Report). r.requests) (sound.shows lives) ∙ shown_requests a.bound a.machine.engine a.machine.mode _ a.dialogue)

-- what is shown is how many steps are gone
shown_steps : (bound : ℕ) (engine : Engine) (mode : Mode) (steps : ℕ) (d : Dialogue) → (shown bound engine mode steps d).steps ≡ bound - steps
shown_steps bound engine (Ended e) steps d = refl
shown_steps bound engine _ steps d = refl

-- the steps of a session that lives
pub has_begun : (a : Inside) → Sound a → IsTrue a.lives → a.bound - left_of a.meter ≡ (left (kept_of a) []).steps
unfolding left
has_begun a sound lives =
    sym (ap (λ (r : Report). r.steps) (sound.shows lives) ∙ shown_steps a.bound a.machine.engine a.machine.mode _ a.dialogue)

-- what is shown is the child whose start is awaited
shown_starting : (bound : ℕ) (engine : Engine) (mode : Mode) (steps : ℕ) (d : Dialogue) → (shown bound engine mode steps d).starting ≡ starting d.phase
shown_starting bound engine (Ended e) steps d = refl
shown_starting bound engine _ steps d = refl

-- the child whose start a session that lives awaits
pub has_started : (a : Inside) → Sound a → IsTrue a.lives → starting a.dialogue.phase ≡ (left (kept_of a) []).starting
unfolding left
has_started a sound lives =
    sym (ap (λ (r : Report). r.starting) (sound.shows lives) ∙ shown_starting a.bound a.machine.engine a.machine.mode _ a.dialogue)

first_of : (xs : List Request) (n : ℕ) → slice_get xs n ≡ slice_get (drop n xs) 0
first_of [] zero = refl
first_of [] (suc n) = refl
first_of (x ∷ xs) zero = refl
first_of (x ∷ xs) (suc n) = first_of xs n

past : (rs : List Request) (n : ℕ) → length rs ≤ n → slice_get rs n ≡ None
past [] zero le = refl
past [] (suc n) le = refl
past (r ∷ rs) zero le = absurd (omega (arith, le))
past (r ∷ rs) (suc n) le = past rs n (omega (arith, le))

-- what the report has at a place is what was asked for there
asked_at : (a : Inside) → Sound a → IsTrue a.lives → slice_get (left (kept_of a) []).requests a.handed ≡ slice_get a.dialogue.own.requests a.handed
unfolding left
asked_at a sound lives =
    ap (λ (r : Report). slice_get r.requests a.handed) (sound.shows lives)
    ∙ ap (λ (rs : List Request). slice_get rs a.handed) (shown_requests a.bound a.machine.engine a.machine.mode _ a.dialogue)

-- what lies ready first is what was asked for at the count
ready_at : (a : Inside) → Sound a → IsTrue a.lives → slice_get a.dialogue.own.requests a.handed ≡ slice_get a.ready.items 0
ready_at a sound lives = first_of a.dialogue.own.requests a.handed ∙ sym (ap (λ (rs : List Request). slice_get rs 0) (sound.ready lives))

hands_nothing : (a : Inside) → Sound a → (IsTrue a.lives → slice_get a.dialogue.own.requests a.handed ≡ None) → HandsOut (kept_of a) None (kept_of a)
hands_nothing a sound none = record {
  lives = refl;
  says = λ later. refl;
  next = λ lives. sym (asked_at a sound lives ∙ none lives);
  spent = λ spent. refl;
  counted = refl;
}

-- all were handed out
pub hands_past : (a : Inside) → Sound a → length a.dialogue.own.requests ≤ a.handed → HandsOut (kept_of a) None (kept_of a)
hands_past a sound over = hands_nothing a sound (λ lives. past a.dialogue.own.requests a.handed over)

-- none lies ready
pub hands_none : (a : Inside) → Sound a → a.ready.items ≡ [] → HandsOut (kept_of a) None (kept_of a)
hands_none a sound empty = hands_nothing a sound (λ lives. ready_at a sound lives ∙ ap (λ (rs : List Request). slice_get rs 0) empty)

-- the first that lies ready
pub hands_some : (a : Inside) (r : Request) (rest : List Request) → Sound a → a.ready.items ≡ r ∷ rest → HandsOut (kept_of a) (Some r) (record (kept_of a) { handed = a.handed + 1 })
unfolding left
hands_some a r rest sound here = record {
  lives = refl;
  says = λ later. refl;
  next = λ lives. sym (asked_at a sound lives ∙ ready_at a sound lives ∙ ap (λ (rs : List Request). slice_get rs 0) here);
  spent = λ spent. let none : a.ready.items ≡ [] = sound.spent spent in absurd (cc);
  counted = refl;
}

-- behind the request that was handed out the others still lie ready
pub ready_on : (a : Inside) (r : Request) (rest : List Request) → Sound a → a.ready.items ≡ r ∷ rest → IsTrue a.lives → rest ≡ drop (a.handed + 1) a.dialogue.own.requests
ready_on a r rest sound here lives = ap (drop 1) (sym here ∙ sound.ready lives) ∙ drop-drop 1 a.handed a.dialogue.own.requests

pub none_spent : (a : Inside) (r : Request) (rest : List Request) → Sound a → a.ready.items ≡ r ∷ rest → a.lives ≡ false → rest ≡ []
none_spent a r rest sound here spent = let none : a.ready.items ≡ [] = sound.spent spent in absurd (cc)

pub none_in : (rs : List Request) → length rs ≡ 0 → rs ≡ []
none_in [] none = refl
none_in (r ∷ rs) none = absurd (omega (arith, none))
