-- What planning a log returns and writes.
use Rattle.std.specs.Prelude.{◌≡◌, ◌≢◌, ℕ, List, Option, Some, None, Result, Ok, Err}
use Rattle.std.specs.Io.KnownBytes.{Appends}
use Rattle.child_events.specs.declared.event.HallEvent.{HallEvent}
use Rattle.child_events.specs.Log.{numbers_of, CountedLog}
use Rattle.child_timeline.specs.declared.fault.TimelineFault.{TimelineFault}
use Rattle.child_timeline.specs.declared.fault.TimelineFault.TheVariants as lines
use Rattle.child_timeline.specs.declared.timeline.Timeline.{Timeline}
use Rattle.child_timeline.specs.Said.{said_of}
use Rattle.child_timeline.specs.Typescript.{timed_typescript}
use Rattle.child_timeline.specs.Told.{AreTold}
use Rattle.dialogue_sched.specs.declared.script.Script.{Script}
use Rattle.log_plan.specs.declared.fault.PlanFault.TheVariants as plans
use Rattle.log_plan.specs.Plan.{Plans}
use Rattle.script_runs.specs.declared.planning.PlanLogFault.{PlanLogFault}
use Rattle.script_runs.specs.declared.planning.PlanLogFault.TheVariants as fault
use Rattle.report_texts.specs.Devices.{WasPut}

-- An error in the timeline or the plan is never `Memory`.
abbrev pub IsNoWant : PlanLogFault → Type 0
IsNoWant fault.Read = Unit {0}
IsNoWant (fault.Timeline f) = f ≢ lines.Memory
IsNoWant (fault.Plan f) = f ≢ plans.Memory
IsNoWant fault.Write = Unit {0}
IsNoWant fault.Memory = Unit {0}

-- The timeline of a text. With a timing file, the text is a typescript.
abbrev pub told_by : List ℕ → Option (List ℕ) → Result Timeline TimelineFault
told_by bytes None = said_of bytes
told_by bytes (Some timing) = timed_typescript bytes timing

-- What reading a timeline returns.
abbrev pub Tells : List ℕ → Option (List ℕ) → Result Timeline PlanLogFault → Type 0
Tells bytes timing (Ok t) = (told_by bytes timing ≡ Ok t) × AreTold t.events
Tells bytes timing (Err fault.Read) = ⊥
Tells bytes timing (Err (fault.Timeline f)) = (f ≢ lines.Memory) × (told_by bytes timing ≡ Err f)
Tells bytes timing (Err (fault.Plan f)) = ⊥
Tells bytes timing (Err fault.Write) = ⊥
Tells bytes timing (Err fault.Memory) = Unit {0}

-- The text is the log of the events that the script's plan over the timeline gives.
pub record IsLog (s : Script) (t : Timeline) (text : List ℕ) : Type 0 where
  pub events : List HallEvent
  pub plan : Plans s t (Ok events)
  pub log : CountedLog (numbers_of events) text events

-- What making the log returns.
abbrev pub Logs : Script → Timeline → Result (List ℕ) PlanLogFault → Type 0
Logs s t (Ok text) = IsLog s t text
Logs s t (Err fault.Read) = ⊥
Logs s t (Err (fault.Timeline f)) = ⊥
Logs s t (Err (fault.Plan f)) = (f ≢ plans.Memory) × Plans s t (Err f)
Logs s t (Err fault.Write) = ⊥
Logs s t (Err fault.Memory) = Unit {0}

-- The bytes are the text of a timeline, and the text is the log of the script's plan over it.
pub record IsLogOver (s : Script) (bytes : List ℕ) (timing : Option (List ℕ)) (text : List ℕ) : Type 0 where
  pub timeline : Timeline
  pub read : told_by bytes timing ≡ Ok timeline
  pub log : IsLog s timeline text

-- What making the log from the text of a timeline returns.
abbrev pub LogsOver : Script → List ℕ → Option (List ℕ) → Result (List ℕ) PlanLogFault → Type 0
LogsOver s bytes timing (Ok text) = IsLogOver s bytes timing text
LogsOver s bytes timing (Err fault.Read) = ⊥
LogsOver s bytes timing (Err (fault.Timeline f)) = (f ≢ lines.Memory) × (told_by bytes timing ≡ Err f)
LogsOver s bytes timing (Err (fault.Plan f)) = (f ≢ plans.Memory) × ((t : Timeline) × (told_by bytes timing ≡ Ok t) × Plans s t (Err f))
LogsOver s bytes timing (Err fault.Write) = ⊥
LogsOver s bytes timing (Err fault.Memory) = Unit {0}

-- The log of the script's plan is appended to the output, and nothing else.
pub record PlannedLog (s : Script) (bytes : List ℕ) (timing old new : Option (List ℕ)) : Type 0 where
  pub text : List ℕ
  pub log : IsLogOver s bytes timing text
  pub written : Appends old new text

-- A front of that log is appended to the output, and nothing else.
pub record PartPlanned (s : Script) (bytes : List ℕ) (timing old new : Option (List ℕ)) : Type 0 where
  pub text : List ℕ
  pub log : IsLogOver s bytes timing text
  pub written : WasPut old new text

-- What planning over these bytes returns, and what it appends to the output.
abbrev pub PlansLog : Script → List ℕ → Option (List ℕ) → Option (List ℕ) → Option (List ℕ) → Result (Unit {0}) PlanLogFault → Type 0
PlansLog s bytes timing old new (Ok done) = PlannedLog s bytes timing old new
PlansLog s bytes timing old new (Err fault.Read) = Unit {0}
PlansLog s bytes timing old new (Err (fault.Timeline f)) = told_by bytes timing ≡ Err f
PlansLog s bytes timing old new (Err (fault.Plan f)) = (t : Timeline) × (told_by bytes timing ≡ Ok t) × Plans s t (Err f)
PlansLog s bytes timing old new (Err fault.Write) = PartPlanned s bytes timing old new
PlansLog s bytes timing old new (Err fault.Memory) = Unit {0}
