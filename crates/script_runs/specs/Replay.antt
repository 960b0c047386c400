-- What a replay returns and writes.
use Rattle.std.specs.Prelude.{◌≡◌, ◌≢◌, ℕ, List, Bool, true, false, Option, Result, Ok, Err, IfSome}
use Rattle.std.specs.Io.KnownBytes.{Appends}
use Rattle.child_events.specs.declared.event.HallEvent.{HallEvent}
use Rattle.child_events.specs.declared.faults.LogFault.{LogFault}
use Rattle.child_events.specs.declared.faults.LogFault.TheVariants as logs
use Rattle.child_events.specs.Log.{LogText}
use Rattle.child_events.specs.Reading.{Refused}
use Rattle.child_events.specs.Judging.{Left, SaysLog}
use Rattle.cut_logs.specs.Cut.{mended}
use Rattle.session.specs.declared.report.Report.{Report}
use Rattle.dialogue_sched.specs.declared.script.Script.{Script}
use Rattle.dialogue_sched.specs.declared.hall.HallFault.TheVariants as halls
use Rattle.dialogue_sched.specs.declared.run.RunFault.{RunFault}
use Rattle.dialogue_sched.specs.declared.run.RunFault.TheVariants as run
use Rattle.dialogue_sched.specs.Run.{Runs, RunsSaid}
use Rattle.script_runs.specs.declared.fault.ReplayFault.{ReplayFault}
use Rattle.script_runs.specs.declared.fault.ReplayFault.TheVariants.{Read, Log, Run, Write, Memory}
use Rattle.report_texts.specs.Report.{all_done}
use Rattle.report_texts.specs.Form.{told_bytes}
use Rattle.report_texts.specs.Devices.{WasPut, GaveUp}
use Rattle.report_texts.specs.Written.{AllStandFor}
use Rattle.report_texts.specs.Masked.{AllMasked}
use Rattle.script_runs.specs.Shelf.{Keeps, transcripts_of}
use Rattle.report_texts.specs.declared.form.Form.{Form}

-- The log that is read from bytes, which may be cut off.
abbrev pub log_of : Bool → List ℕ → List ℕ
log_of true bytes = mended bytes
log_of false bytes = bytes

-- The bytes are the log of some events, and running the scripts over these events returns `answer`.
pub record RunOver (scripts : List Script) (bytes : List ℕ) (answer : Result (List Report) RunFault) : Type 0 where
  pub events : List HallEvent
  pub log : LogText bytes events
  pub runs : Runs scripts events answer

-- The transcripts of the run's reports are kept, with names in place of secrets. The text of the printed reports is
-- appended to the output, and nothing else.
pub record Replayed (scripts : List Script) (form : Form) (bytes : List ℕ) (well : Bool) (kept kept' : Option (List (List ℕ))) (old new : Option (List ℕ)) : Type 0 where
  pub reports : List Report
  pub printed : List Report
  pub run : RunOver scripts bytes (Ok reports)
  pub shown : List Report
  pub masks : AllMasked form.secrets reports shown
  pub keeps : Keeps kept kept' (transcripts_of shown)
  pub stand : AllStandFor shown printed
  pub done : well ≡ all_done printed
  pub written : Appends old new (told_bytes form printed)

-- A front of that text is appended to the output, and nothing else.
pub record PartReplayed (scripts : List Script) (form : Form) (bytes : List ℕ) (kept kept' : Option (List (List ℕ))) (old new : Option (List ℕ)) : Type 0 where
  pub reports : List Report
  pub printed : List Report
  pub run : RunOver scripts bytes (Ok reports)
  pub shown : List Report
  pub masks : AllMasked form.secrets reports shown
  pub keeps : Keeps kept kept' (transcripts_of shown)
  pub stand : AllStandFor shown printed
  pub written : WasPut old new (told_bytes form printed)

-- What a replay of bytes returns, what it keeps, and what it appends to the output.
abbrev pub Replays : List Script → Form → List ℕ → Option (List (List ℕ)) → Option (List (List ℕ)) → Option (List ℕ) → Option (List ℕ) → Result Bool ReplayFault → Type 0
Replays scripts form bytes kept kept' old new (Ok well) = Replayed scripts form bytes well kept kept' old new
Replays scripts form bytes kept kept' old new (Err Read) = Unit {0}
Replays scripts form bytes kept kept' old new (Err (Log f)) = Refused bytes f
Replays scripts form bytes kept kept' old new (Err (Run f)) = RunOver scripts bytes (Err f)
Replays scripts form bytes kept kept' old new (Err Write) = PartReplayed scripts form bytes kept kept' old new
Replays scripts form bytes kept kept' old new (Err Memory) = Unit {0}

-- An error in the log or the run is never `Memory`.
abbrev pub IsNoWant : ReplayFault → Type 0
IsNoWant Read = Unit {0}
IsNoWant (Log f) = f ≢ logs.Memory
IsNoWant (Run f) = (f ≢ run.Memory) × (f ≢ run.New halls.Memory)
IsNoWant Write = Unit {0}
IsNoWant Memory = Unit {0}

-- What beginning to read a log returns.
abbrev pub Opens : List ℕ → Result Left ReplayFault → Type 0
Opens bytes (Ok left) = SaysLog bytes left.said
Opens bytes (Err Read) = ⊥
Opens bytes (Err (Log f)) = (f ≢ logs.Memory) × Refused bytes f
Opens bytes (Err (Run f)) = ⊥
Opens bytes (Err Write) = ⊥
Opens bytes (Err Memory) = Unit {0}

-- What running the scripts over the events of a log returns.
abbrev pub RunOrFault : List Script → Result (List HallEvent) LogFault → Result (List Report) ReplayFault → Type 0
RunOrFault scripts said (Ok reports) = RunsSaid scripts said (Ok reports)
RunOrFault scripts said (Err Read) = ⊥
RunOrFault scripts said (Err (Log f)) = (f ≢ logs.Memory) × (said ≡ Err f)
RunOrFault scripts said (Err (Run f)) = IsNoWant (Run f) × RunsSaid scripts said (Err f)
RunOrFault scripts said (Err Write) = ⊥
RunOrFault scripts said (Err Memory) = Unit {0}

-- What running the scripts over the log of these bytes returns.
abbrev pub ReportsOver : List Script → List ℕ → Result (List Report) ReplayFault → Type 0
ReportsOver scripts bytes (Ok reports) = RunOver scripts bytes (Ok reports)
ReportsOver scripts bytes (Err Read) = ⊥
ReportsOver scripts bytes (Err (Log f)) = (f ≢ logs.Memory) × Refused bytes f
ReportsOver scripts bytes (Err (Run f)) = IsNoWant (Run f) × RunOver scripts bytes (Err f)
ReportsOver scripts bytes (Err Write) = ⊥
ReportsOver scripts bytes (Err Memory) = Unit {0}

-- The same for bytes that are read, if they are known, with the reader's counts after the reading.
abbrev pub ReportsRead : List Script → Option (List ℕ) → ℕ → ℕ → Result (List Report) ReplayFault → Type 0
ReportsRead scripts known failures calls (Ok reports) = IfSome known (λ bytes. RunOver scripts bytes (Ok reports))
ReportsRead scripts known failures calls (Err Read) = GaveUp failures calls
ReportsRead scripts known failures calls (Err (Log f)) = (f ≢ logs.Memory) × IfSome known (λ bytes. Refused bytes f)
ReportsRead scripts known failures calls (Err (Run f)) = IsNoWant (Run f) × IfSome known (λ bytes. RunOver scripts bytes (Err f))
ReportsRead scripts known failures calls (Err Write) = ⊥
ReportsRead scripts known failures calls (Err Memory) = Unit {0}
