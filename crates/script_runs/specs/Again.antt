-- A run over children, and a replay of the record that it wrote.
use Rattle.std.specs.Prelude.{◌≡◌, ◌≢◌, ◌⊎◌, ◌<◌, ◌^◌, ℕ, List, length, Bool, true, false, Option, None, Err}
use Rattle.std.specs.List.{AllByRecursion}
use Rattle.child_events.specs.declared.child_numbers.ChildNumbers.TheVariants.{To16}
use Rattle.child_events.specs.declared.event.Answer.{Answer}
use Rattle.expect_core.specs.declared.request.Request.{Request}
use Rattle.session.specs.declared.report.Report.{Report}
use Rattle.session.specs.Spent.{memory_report}
use Rattle.dialogue_sched.specs.declared.script.Script.{Script}
use Rattle.dialogue_sched.specs.Pairs.{Paired}
use Rattle.child_desk.specs.Line.{Keeping}
use Rattle.report_texts.specs.declared.form.Form.{Form}
use Rattle.script_runs.specs.declared.fault.ReplayFault.{ReplayFault}
use Rattle.script_runs.specs.declared.fault.ReplayFault.TheVariants.{Read, Log, Run, Write, Memory}
use Rattle.child_events.specs.Log.{counted_text}
use Rattle.script_runs.specs.declared.driving.Written.{Written}
use Rattle.script_runs.specs.Drive.{Driven}
use Rattle.script_runs.specs.Replay.{Replayed, PartReplayed, Replays, IsNoWant}

-- Two reports are the same, unless one of them says that memory was refused.
abbrev pub AgreesWith : Report → Report → Type 0
AgreesWith r r' = (r ≡ r') ⊎ ((r ≡ memory_report) ⊎ (r' ≡ memory_report))

abbrev pub AllAgree : List Report → List Report → Type 0
AllAgree rs rs' = Paired AgreesWith rs rs'

-- No report says that memory was refused.
abbrev pub AreSpared : List Report → Type 0
AreSpared rs = AllByRecursion (λ r. r ≢ memory_report) rs

-- An error of the devices, or `Memory`. An error in the log is allowed only for a record of 10^16 bytes or more.
abbrev pub IsOfDevices : List ℕ → ReplayFault → Type 0
IsOfDevices bytes Read = Unit {0}
IsOfDevices bytes (Log f) = length bytes < 10 ^ 16 → ⊥
IsOfDevices bytes (Run f) = ⊥
IsOfDevices bytes Write = Unit {0}
IsOfDevices bytes Memory = Unit {0}

-- The reports of a run and of a replay agree, and so do the reports that they printed. The printed reports are the same
-- if none of them says that memory was refused.
pub record SameReports (rs ts rs' ts' : List Report) : Type 0 where
  pub reports : AllAgree rs rs'
  pub printed : AllAgree ts ts'
  pub same : AreSpared ts → AreSpared ts' → ts' ≡ ts

module _ (told : ℕ → ℕ → Request → Answer → Type 0) (gives : ℕ → ℕ → Option (List ℕ) → Type 0) where
  -- A run that wrote this.
  abbrev Ran : ℕ → List Keeping → List Script → Form → Written → Option (List (List ℕ)) → Option (List (List ℕ)) → Option (List ℕ) → Option (List ℕ) → ℕ → ℕ → Option (List ℕ) → Option (List ℕ) → ℕ → ℕ → Type 0
  Ran workers keepers scripts = Driven told gives true workers keepers scripts

  -- A run gives the same reports as its replay, if its record was written whole and the run was not stopped. Here all
  -- reports of the replay were written. The run's own reports may be any. `form` and `form'` have the same secrets.
  -- `bytes` is the text that the run appended to its log.
  abbrev pub ReplaysSame : Type 0
  ReplaysSame = (workers : ℕ) (keepers : List Keeping) (scripts : List Script) (form form' : Form) (written : Written) (well' : Bool) (kept kept' shelf shelf' : Option (List (List ℕ))) (bytes : List ℕ) (log log' : Option (List ℕ)) (log_failures log_calls : ℕ) (out out' : Option (List ℕ)) (out_failures out_calls : ℕ) (old new : Option (List ℕ)) →
      form'.secrets ≡ form.secrets → length keepers ≡ length scripts → (ran : Ran workers keepers scripts form written kept kept' log log' log_failures log_calls out out' out_failures out_calls) → written.log ≡ None → ran.served.stopped ≡ false → bytes ≡ counted_text To16 ran.logged.es →
      (again : Replayed scripts form' bytes well' shelf shelf' old new) → SameReports ran.served.reports ran.reported.told again.reports again.printed

  -- The same for a replay that wrote a front of its reports.
  abbrev pub ReplaysPart : Type 0
  ReplaysPart = (workers : ℕ) (keepers : List Keeping) (scripts : List Script) (form form' : Form) (written : Written) (kept kept' shelf shelf' : Option (List (List ℕ))) (bytes : List ℕ) (log log' : Option (List ℕ)) (log_failures log_calls : ℕ) (out out' : Option (List ℕ)) (out_failures out_calls : ℕ) (old new : Option (List ℕ)) →
      form'.secrets ≡ form.secrets → length keepers ≡ length scripts → (ran : Ran workers keepers scripts form written kept kept' log log' log_failures log_calls out out' out_failures out_calls) → written.log ≡ None → ran.served.stopped ≡ false → bytes ≡ counted_text To16 ran.logged.es →
      (again : PartReplayed scripts form' bytes shelf shelf' old new) → SameReports ran.served.reports ran.reported.told again.reports again.printed

  -- A replay finds no error in the record, unless the record is too long. The run over the record refuses no entry.
  abbrev pub ReplaysUnrefused : Type 0
  ReplaysUnrefused = (workers : ℕ) (keepers : List Keeping) (scripts : List Script) (form form' : Form) (written : Written) (kept kept' shelf shelf' : Option (List (List ℕ))) (bytes : List ℕ) (log log' : Option (List ℕ)) (log_failures log_calls : ℕ) (out out' : Option (List ℕ)) (out_failures out_calls : ℕ) (old new : Option (List ℕ)) (fault : ReplayFault) →
      length keepers ≡ length scripts → (ran : Ran workers keepers scripts form written kept kept' log log' log_failures log_calls out out' out_failures out_calls) → written.log ≡ None → bytes ≡ counted_text To16 ran.logged.es →
      IsNoWant fault → Replays scripts form' bytes shelf shelf' old new (Err fault) → IsOfDevices bytes fault
