-- What a run over children returns and writes.
use Rattle.std.specs.Prelude.{◌≡◌, ℕ, List, [], Bool, true, MatchBool, Option, Some, None, Result, Ok, Err}
use Rattle.std.specs.Io.KnownBytes.{Appends}
use Rattle.child_events.specs.declared.child_numbers.ChildNumbers.TheVariants.{To16}
use Rattle.child_events.specs.declared.event.Answer.{Answer}
use Rattle.child_events.specs.declared.event.HallEvent.{HallEvent}
use Rattle.child_events.specs.Log.{CountedLog, counted_text}
use Rattle.expect_core.specs.declared.request.Request.{Request}
use Rattle.dialogue_sched.specs.declared.script.Script.{Script}
use Rattle.child_desk.specs.Line.{Keeping}
use Rattle.child_serve.specs.declared.served.Served.{Served}
use Rattle.child_serve.specs.declared.serving.ServeFault.{ServeFault}
use Rattle.child_serve.specs.declared.serving.ServeFault.TheVariants as serve
use Rattle.dialogue_sched.specs.Hall.{opening_fault}
use Rattle.child_serve.specs.Whole as Serving
use Rattle.script_runs.specs.declared.log_writer.LogWriteFault.{LogWriteFault}
use Rattle.script_runs.specs.declared.driving.DriveFault.{DriveFault}
use Rattle.script_runs.specs.declared.driving.DriveFault.TheVariants.{Serve, Memory}
use Rattle.script_runs.specs.declared.driving.Written.{Written}
use Rattle.script_runs.specs.Logging.{PutUpTo, if_kept}
use Rattle.report_texts.specs.Devices.{WasPut}
use Rattle.report_texts.specs.Written.{WritesAll}
use Rattle.report_texts.specs.Masked.{AllMasked}
use Rattle.session.specs.declared.report.Report.{Report}
use Rattle.script_runs.specs.Shelf.{Keeps, transcripts_of}
use Rattle.report_texts.specs.declared.form.Form.{Form}

module _ (told : ℕ → ℕ → Request → Answer → Type 0) (gives : ℕ → ℕ → Option (List ℕ) → Type 0) (recorded : Bool) (workers : ℕ) (keepers : List Keeping) (scripts : List Script) where
  -- The scripts were served. The log of their record was written, or a front of it after an error. If the run isn't
  -- recorded, nothing was written.
  pub record Recorded (served : Served) (fault : Option LogWriteFault) (log log' : Option (List ℕ)) (failures calls : ℕ) : Type 0 where
    pub es : List HallEvent
    pub serves : Serving.WasServed told gives workers keepers scripts es served
    pub put : PutUpTo fault log log' (if_kept recorded (counted_text To16 es)) failures calls
    pub means : recorded ≡ true → fault ≡ None → CountedLog To16 (counted_text To16 es) es

  -- Why scripts were not served, for a reason other than memory.
  abbrev pub IsUnserved : ServeFault → Type 0
  IsUnserved (serve.New fault) = opening_fault scripts ≡ Some fault
  IsUnserved serve.Memory = ⊥
  IsUnserved serve.NoThread = Unit {0}

  -- A front of the log of some events was written, or nothing if the run isn't recorded.
  abbrev pub FrontWritten : Option (List ℕ) → Option (List ℕ) → Type 0
  FrontWritten log log' = MatchBool recorded ((es : List HallEvent) × WasPut log log' (counted_text To16 es)) (Appends log log' [])

  -- The scripts were not served.
  abbrev pub Unserved : Option (List ℕ) → Option (List ℕ) → DriveFault → Type 0
  Unserved log log' (Serve f) = IsUnserved f × FrontWritten log log'
  Unserved log log' Memory = FrontWritten log log'

  -- What serving scripts returns, if their record is written as they are served.
  abbrev pub Logs : Option (List ℕ) → Option (List ℕ) → ℕ → ℕ → Result (Served × Option LogWriteFault) DriveFault → Type 0
  Logs log log' failures calls (Ok (served, fault)) = Recorded served fault log log' failures calls
  Logs log log' failures calls (Err fault) = Unserved log log' fault

  -- The same for a run that writes its reports as its scripts end.
  abbrev pub Records : Option (List ℕ) → Option (List ℕ) → ℕ → ℕ → Result (Option LogWriteFault) DriveFault → Type 0
  Records log log' failures calls (Ok fault) = (served : Served) × Recorded served fault log log' failures calls
  Records log log' failures calls (Err fault) = Unserved log log' fault

  -- The record is written, the transcripts are kept, and the reports are printed, both with names in place of secrets.
  -- After an error in writing the record, a front of it is written. After an error in writing the reports, a front of
  -- their text is written.
  pub record Driven (form : Form) (written : Written) (kept kept' : Option (List (List ℕ))) (log log' : Option (List ℕ)) (log_failures log_calls : ℕ) (out out' : Option (List ℕ)) (out_failures out_calls : ℕ) : Type 0 where
    pub served : Served
    pub logged : Recorded served written.log log log' log_failures log_calls
    pub shown : List Report
    pub masks : AllMasked form.secrets served.reports shown
    pub keeps : Keeps kept kept' (transcripts_of shown)
    pub reported : WritesAll form shown out out' out_failures out_calls written.reports

  -- What a run returns, what it keeps, and what it appends to its outputs.
  abbrev pub Drives : Form → Option (List (List ℕ)) → Option (List (List ℕ)) → Option (List ℕ) → Option (List ℕ) → ℕ → ℕ → Option (List ℕ) → Option (List ℕ) → ℕ → ℕ → Result Written DriveFault → Type 0
  Drives form kept kept' log log' log_failures log_calls out out' out_failures out_calls (Ok written) = Driven form written kept kept' log log' log_failures log_calls out out' out_failures out_calls
  Drives form kept kept' log log' log_failures log_calls out out' out_failures out_calls (Err fault) = Unserved log log' fault

-- The error of a run whose scripts were not served.
abbrev pub fault_of : ServeFault → DriveFault
fault_of (serve.New fault) = Serve (serve.New fault)
fault_of serve.NoThread = Serve serve.NoThread
fault_of serve.Memory = Memory

-- Why not all of the record was written.
abbrev pub log_fault_of : Result (Served × Option LogWriteFault) DriveFault → Result (Option LogWriteFault) DriveFault
log_fault_of (Ok (served, fault)) = Ok fault
log_fault_of (Err fault) = Err fault
