-- Laws of all calls.
use Rattle.std.specs.Prelude.{◌≡◌, ◌↔◌, ℕ, List, [], ◌∷◌, ◌++◌, Bool, true, false, IsTrue}
use Rattle.child_events.specs.declared.event.Event.{Event}
use Rattle.child_events.specs.declared.event.Event.TheVariants.{Tick}
use Rattle.tcl_subst.specs.Variables.{Variables}
use Rattle.tcl_results.specs.declared.code.Code.{Code}
use Rattle.tcl_results.specs.declared.code.Code.TheVariants.{Again, AgainLater}
use Rattle.tcl_host.specs.declared.ending.Ending.TheVariants.{TimeLimit}
use Rattle.tcl_host.specs.declared.host.HostStep.{HostStep}
use Rattle.tcl_host.specs.declared.host.HostStep.TheVariants.{Done, Body, Words, Wait, Stop, Unknown, Memory}
use Rattle.tcl_host.specs.Calls.{Call, Begin, AfterBody}
use Rattle.expect_core.specs.declared.body.Body.{Body as Evaluated}
use Rattle.expect_core.specs.declared.body.Body.TheVariants.{Action, Source}
use Rattle.expect_core.specs.declared.own.Own.{Own}
use Rattle.expect_core.specs.declared.settings.Settings.{Settings}
use Rattle.expect_core.specs.declared.dialogue.Dialogue.{Dialogue}
use Rattle.expect_core.specs.Answered.{Outcome, idle}
use Rattle.expect_core.specs.Lanes.{offered}
use Rattle.tcl_results.specs.Codes.{script_code}
use Rattle.expect_core.specs.Calls.{is_named, outcome, resumed, onward, fresh}
use Rattle.expect_core.specs.Good.{Good}
use Rattle.expect_core.specs.Numbered.{Numbered}
use Rattle.expect_core.specs.Deadlines.{IsWithin, deadline_of}

-- The dialogue after a call.
abbrev pub behind_call : Outcome → Dialogue
behind_call (step, vars, st) = st

-- The step of a call.
abbrev pub step_to : Outcome → HostStep
step_to (step, vars, st) = step

-- A call gives the same after one more event as before it, with the event added. If it waited, it goes on instead.
abbrev pub GoesOn : Type 0
GoesOn = (e : Event) (call : Call) (st : Dialogue) → Good st → outcome call (offered e st) ≡ onward e (outcome call st)

-- Nothing is later than the greatest moment: at the start, after each event, and after each call.
pub record StaysGood : Type 0 where
  pub begins : (settings : Settings) → Good (fresh settings)
  pub offered : (e : Event) (st : Dialogue) → Good st → Good (offered e st)
  pub called : (call : Call) (st : Dialogue) → Good st → Good (behind_call (outcome call st))

-- The second list begins with the first.
pub record IsFront {X : Type 0} (first second : List X) : Type 0 where
  pub more : List X
  pub joined : second ≡ first ++ more

-- The requests and the transcript begin with the old ones.
abbrev pub Keeps : Own → Own → Type 0
Keeps old new = IsFront old.requests new.requests × IsFront old.transcript new.transcript

-- No call takes back requests or bytes of the transcript.
abbrev pub StaysTold : Type 0
StaysTold = (call : Call) (st : Dialogue) → Keeps st.own (behind_call (outcome call st)).own

-- Each request names a child from 1 to 16: at the start, after each event, and after each call.
pub record StaysNumbered : Type 0 where
  pub begins : (settings : Settings) → Numbered (fresh settings)
  pub offered : (e : Event) (st : Dialogue) → Numbered st → Numbered (offered e st)
  pub called : (call : Call) (st : Dialogue) → Numbered st → Numbered (behind_call (outcome call st))

-- While only time passes, a waiting call goes on waiting up to its deadline. Nothing else changes.
abbrev pub WaitsOn : Type 0
WaitsOn = (call : Call) (st : Dialogue) (vars : Variables) (new : Dialogue) → outcome call st ≡ (Wait, vars, new) →
    (m : ℕ) → IsWithin m (deadline_of new) → resumed vars (offered (Tick m) new) ≡ (Wait, vars, offered (Tick m) new)

-- Codes 5 and 6, with which `exp_continue` ends.
abbrev pub goes_back : Code → Bool
goes_back Again = true
goes_back AgainLater = true
goes_back c = false

abbrev pub IsBegin : Call → Type 0
IsBegin (Begin words vars) = Unit {0}
IsBegin call = ⊥

-- A script may be asked for. After an action this holds only for codes 5 and 6.
abbrev pub AsksForScripts : Call → Type 0
AsksForScripts (AfterBody c value vars) = IsTrue (goes_back c)
AsksForScripts call = Unit {0}

-- The steps that a call may give. None is `Memory`, and only the time limit stops a script.
abbrev pub IsAnswer : Call → HostStep → Type 0
IsAnswer call Unknown = IsBegin call
IsAnswer call (Words text) = IsBegin call
IsAnswer call (Body text) = AsksForScripts call
IsAnswer call (Stop ending) = ending ≡ TimeLimit
IsAnswer call Memory = ⊥
IsAnswer call step = Unit {0}

-- The code of a command whose script ended with this code. `source` ends well if its file returned.
abbrev pub ends_as : List Evaluated → Code → Code
ends_as [] c = c
ends_as (Action p ∷ bodies) c = c
ends_as (Source ∷ bodies) c = script_code c

-- A command is unknown if and only if its first word names no command of Expect, or it has no words. A script that
-- ends with another code than 5 and 6 ends its command, an action with that code and value. A file that `source` reads
-- ends it with every code. No call ends a dialogue.
pub record AnswersAsked : Type 0 where
  pub unknown : (word : List ℕ) (args : List (List ℕ)) (vars : Variables) (st : Dialogue) → (step_to (outcome (Begin (word ∷ args) vars) st) ≡ Unknown) ↔ (is_named word ≡ false)
  pub wordless : (vars : Variables) (st : Dialogue) → outcome (Begin [] vars) st ≡ (Unknown, vars, idle st)
  pub each : (call : Call) (st : Dialogue) → IsAnswer call (step_to (outcome call st))
  pub ended : (c : Code) (value : List ℕ) (vars : Variables) (st : Dialogue) → goes_back c ≡ false → step_to (outcome (AfterBody c value vars) st) ≡ Done (ends_as st.own.bodies c) value
  pub sourced : (c : Code) (value : List ℕ) (vars : Variables) (st : Dialogue) (bodies : List Evaluated) → st.own.bodies ≡ Source ∷ bodies → step_to (outcome (AfterBody c value vars) st) ≡ Done (script_code c) value
  pub living : (call : Call) (st : Dialogue) → (behind_call (outcome call st)).lives ≡ st.lives
