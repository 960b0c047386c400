-- The meaning of a hall's calls.
use Rattle.std.specs.Prelude.{◌≡◌, ℕ, ◌+◌, ◌-◌, nat_lt, length, List, [], ◌∷◌, slice_get, slice_set, false, IsTrue, Option, Some, None, Result, Ok, Err, MatchOption, if◌then◌else◌}
use Rattle.child_events.specs.declared.event.Event.{Event}
use Rattle.tcl_host.specs.declared.ending.Ending.{Ending}
use Rattle.tcl_host.specs.declared.ending.Ending.TheVariants.{Memory}
use Rattle.session.specs.declared.report.Report.{Report}
use Rattle.expect_core.specs.declared.request.Request.{Request}
use Rattle.expect_core.specs.Lanes.{untaken_of}
use Rattle.session.specs.Meaning.{meaning}
use Rattle.session.specs.Left.{Kept, left, HandsOut, HasShown, HasStarted}
use Rattle.session.specs.Spent.{Reports}
use Rattle.dialogue_sched.specs.declared.script.Script.{Script}
use Rattle.dialogue_sched.specs.declared.hall.HallFault.{HallFault}
use Rattle.dialogue_sched.specs.declared.hall.HallFault.TheVariants as halls
use Rattle.dialogue_sched.specs.declared.refusal.HallRefusal.{HallRefusal}
use Rattle.child_events.specs.declared.event.HallEvent.{HallEvent}
use Rattle.dialogue_sched.specs.Refusal.{refusal_of}
use Rattle.dialogue_sched.specs.Took.{AllTook}
use Rattle.dialogue_sched.specs.Pairs.{Paired}

-- A session that no event has reached.
pub record Begins (script : Script) (k : Kept) : Type 0 where
  pub handed : k.handed ≡ 0
  pub says : IsTrue k.lives → (later : List Event) → left k later ≡ meaning script.source script.settings later

abbrev pub AllBegin : List Script → List Kept → Type 0
AllBegin scripts ks = Paired Begins scripts ks

-- The ending of a script, or that it waits.
pub record Ends (k : Kept) (e : Ending) : Type 0 where
  pub lives : IsTrue k.lives → e ≡ (left k []).ending
  pub spent : k.lives ≡ false → e ≡ Memory

-- The session with a number, counted from 1.
abbrev pub session_at : ℕ → List Kept → Option Kept
session_at n ks = if nat_lt 0 n then slice_get ks (n - 1) else None

-- The script with this number hands out its next request. No other script changes.
abbrev pub Requested : ℕ → List Kept → Option Request → List Kept → Type 0
Requested n old request new = MatchOption (session_at n old)
    ((request ≡ None) × (new ≡ old))
    (λ k. (k' : Kept) × HandsOut k request k' × (new ≡ slice_set old (n - 1) k'))

-- The number of the first script whose source is too long.
abbrev pub too_long : ℕ → List Script → Option HallFault
too_long n [] = None
too_long n (s ∷ ss) = if nat_lt 1048576 (length s.source) then Some (halls.SourceTooLong n) else too_long (n + 1) ss

-- Why scripts can't be run.
abbrev pub opening_fault : List Script → Option HallFault
opening_fault scripts = if nat_lt 64 (length scripts) then Some halls.TooManyScripts else too_long 1 scripts

-- The result of opening a hall.
abbrev pub Opens : List Script → Result (List Kept) HallFault → Type 0
Opens scripts (Ok ks) = (opening_fault scripts ≡ None) × AllBegin scripts ks
Opens scripts (Err halls.TooManyScripts) = opening_fault scripts ≡ Some halls.TooManyScripts
Opens scripts (Err (halls.SourceTooLong n)) = opening_fault scripts ≡ Some (halls.SourceTooLong n)
Opens scripts (Err halls.Memory) = opening_fault scripts ≡ None

-- The result of a step, and the sessions after it.
abbrev pub Stepped : HallEvent → List Kept → List Kept → Result (Unit {0}) HallRefusal → Type 0
Stepped e old new (Ok done) = (refusal_of (length old) e ≡ None) × AllTook 1 (e ∷ []) old new
Stepped e old new (Err r) = (refusal_of (length old) e ≡ Some r) × (new ≡ old)

-- The report of the script with this number, or `None` if there is no such script.
abbrev pub Reported : ℕ → List Kept → Option Report → Type 0
Reported n ks None = session_at n ks ≡ None
Reported n ks (Some r) = MatchOption (session_at n ks) ⊥ (λ k. Reports k r)

-- The report of each session, in order.
abbrev pub AllReport : List Kept → List Report → Type 0
AllReport ks rs = Paired Reports ks rs

-- The ending of the script with this number.
abbrev pub EndsAt : ℕ → List Kept → Option Ending → Type 0
EndsAt n ks None = session_at n ks ≡ None
EndsAt n ks (Some e) = MatchOption (session_at n ks) ⊥ (λ k. Ends k e)

-- The transcript of the script with this number. Empty if there is no such script.
abbrev pub HasShownAt : ℕ → List Kept → List ℕ → Type 0
HasShownAt n ks bytes = MatchOption (session_at n ks) (bytes ≡ []) (λ k. HasShown k bytes)

-- The child whose start the script with this number awaits. None if there is no such script.
abbrev pub StartsAt : ℕ → List Kept → Option ℕ → Type 0
StartsAt n ks child = MatchOption (session_at n ks) (child ≡ None) (λ k. HasStarted k child)

-- The number of a child's items that a script has not taken.
abbrev pub untaken_by : Option Kept → ℕ → ℕ
untaken_by None c = 0
untaken_by (Some k) c = untaken_of c k.dialogue.lanes
