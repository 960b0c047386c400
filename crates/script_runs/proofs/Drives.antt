-- From what was served to what is written of its record.
use Rattle.std.proofs.Common.{◌≡◌, ◌≢◌, ℕ, List, [], ◌++◌, length, Bool, true, false, Option, None, Result, Ok, Err, refl, sym, subst, append_assoc}
use Rattle.std.proofs.KnownBytes.{Appends-nil}
use Rattle.child_events.specs.declared.child_numbers.ChildNumbers.TheVariants.{To16}
use Rattle.child_events.specs.declared.event.Answer.{Answer}
use Rattle.child_events.specs.Log.{heading, lines_text, total_line}
use Rattle.expect_core.specs.declared.request.Request.{Request}
use Rattle.session.specs.declared.report.Report.{Report}
use Rattle.dialogue_sched.specs.declared.script.Script.{Script}
use Rattle.child_desk.specs.Line.{Keeping}
use Rattle.run_records.specs.Merged.{WasHanded}
use Rattle.child_serve.specs.declared.served.Served.{Served}
use Rattle.child_serve.specs.declared.serving.ServeFault.{ServeFault}
use Rattle.child_serve.specs.declared.serving.ServeFault.TheVariants as serve
use Rattle.child_serve.specs.Whole.{IsServing}
use Rattle.report_texts.specs.Devices.{WasPut}
use Rattle.report_texts.specs.declared.devices.Unwritten.{Unwritten}
use Rattle.report_texts.specs.declared.form.Form.{Form}
use Rattle.report_texts.specs.Written.{WritesAll}
use Rattle.script_runs.specs.declared.driving.DriveFault.{DriveFault}
use Rattle.script_runs.specs.declared.log_writer.LogWriteFault.{LogWriteFault}
use Rattle.script_runs.specs.declared.log_writer.LogWriter.{LogWriter}
use Rattle.script_runs.specs.Logging.{HasPut, PutsOn, Notes, if_kept}
use Rattle.script_runs.specs.Drive.{Recorded, Logs, FrontWritten, Unserved, Records, fault_of, log_fault_of}
use Rattle.script_runs.proofs.Writers.{handed_noted, front_put, none_put, all_put}

pub writes_as : (form : Form) (slice reports : List Report) (out out' : Option (List ℕ)) (failures calls : ℕ) (result : Result Bool Unwritten) → slice ≡ reports → WritesAll form slice out out' failures calls result → WritesAll form reports out out' failures calls result
writes_as form slice reports out out' failures calls result is = subst (λ (rs : List Report). WritesAll form rs out out' failures calls result) is

-- a writer that began, what it was after it was handed the record, and at the end
module _ {L : Type 0} (contents : L → Option (List ℕ)) (told : ℕ → ℕ → Request → Answer → Type 0) (gives : ℕ → ℕ → Option (List ℕ) → Type 0) (workers : ℕ) (keepers : List Keeping) (scripts : List Script) (before : Option (List ℕ)) (a b : LogWriter L) where
  front_written : (recorded : Bool) → HasPut contents before (if_kept recorded (heading To16)) a → WasHanded (Notes contents) a b → (recorded ≡ false → b ≡ a) → FrontWritten told gives recorded workers keepers scripts before (contents b.log.device)
  front_written true first (es, handed) unkept =
      let lines = (handed_noted contents a b es handed).put before (heading To16) first in
      (es, subst (λ (t : List ℕ). WasPut before (contents b.log.device) t) (append_assoc (heading To16) (lines_text es) (total_line (length es))) (front_put contents before (heading To16 ++ lines_text es) (total_line (length es)) b lines))
  front_written false first handed unkept = none_put contents before b (subst (λ (w : LogWriter L). HasPut contents before [] w) (sym (unkept refl)) first)

  -- where the scripts weren't served
  unserved : (recorded : Bool) (fault : ServeFault) → HasPut contents before (if_kept recorded (heading To16)) a → IsServing told gives workers keepers scripts (Notes contents) a recorded (Err fault) b → (recorded ≡ false → b ≡ a) →
      Unserved told gives recorded workers keepers scripts before (contents b.log.device) (fault_of fault)
  unserved recorded (serve.New f) first (is, handed) unkept = (is, front_written recorded first handed unkept)
  unserved recorded serve.NoThread first handed unkept = (tt, front_written recorded first handed unkept)
  unserved recorded serve.Memory first handed unkept = front_written recorded first handed unkept

  pub unserved_as : (recorded : Bool) (fault : ServeFault) (told_as : DriveFault) → told_as ≡ fault_of fault → HasPut contents before (if_kept recorded (heading To16)) a → IsServing told gives workers keepers scripts (Notes contents) a recorded (Err fault) b → (recorded ≡ false → b ≡ a) →
      Unserved told gives recorded workers keepers scripts before (contents b.log.device) told_as
  unserved_as recorded fault told_as is first serving unkept =
      subst (λ (f : DriveFault). Unserved told gives recorded workers keepers scripts before (contents b.log.device) f) (sym is) (unserved recorded fault first serving unkept)

  -- where they were
  pub were_served : (c : LogWriter L) (served : Served) (recorded : Bool) → HasPut contents before (if_kept recorded (heading To16)) a → a.count ≡ 0 → IsServing told gives workers keepers scripts (Notes contents) a recorded (Ok served) b → (recorded ≡ false → b ≡ a) →
      PutsOn contents (if_kept recorded (total_line b.count)) b c → (c.fault ≡ None → b.fault ≡ None) → (b.fault ≢ None → c ≡ b) → Recorded told gives recorded workers keepers scripts served c.fault before (contents c.log.device) c.log.failures c.log.calls
  were_served c served true first none (es, was, handed) unkept total well still = record {
    es = es;
    serves = was;
    put = all_put contents before a b c es first none notes total still;
    means = λ recorded whole. (refl, (was.whole.fits, (notes.counted (well whole)).2));
  }
    where
      notes : Notes contents a es b
      notes = handed_noted contents a b es (handed refl)
  were_served c served false first none (es, was, handed) unkept total well still = record {
    es = es;
    serves = was;
    put = total before [] (subst (λ (w : LogWriter L). HasPut contents before [] w) (sym (unkept refl)) first);
    means = λ recorded whole. absurd (cc);
  }

-- what is answered of a run whose reports are told as its scripts end
module _ (told : ℕ → ℕ → Request → Answer → Type 0) (gives : ℕ → ℕ → Option (List ℕ) → Type 0) (recorded : Bool) (workers : ℕ) (keepers : List Keeping) (scripts : List Script) (log log' : Option (List ℕ)) (failures calls : ℕ) where
  fault_answered : (outcome : Result (Served × Option LogWriteFault) DriveFault) → Logs told gives recorded workers keepers scripts log log' failures calls outcome → Records told gives recorded workers keepers scripts log log' failures calls (log_fault_of outcome)
  fault_answered (Ok (served, fault)) logged = (served, logged)
  fault_answered (Err fault) logged = logged

  pub records_of : (outcome : Result (Served × Option LogWriteFault) DriveFault) (r : Result (Option LogWriteFault) DriveFault) → r ≡ log_fault_of outcome → Logs told gives recorded workers keepers scripts log log' failures calls outcome → Records told gives recorded workers keepers scripts log log' failures calls r
  records_of outcome r is logged = subst (λ (o : Result (Option LogWriteFault) DriveFault). Records told gives recorded workers keepers scripts log log' failures calls o) (sym is) (fault_answered outcome logged)

-- nothing is written
pub unwritten : (told : ℕ → ℕ → Request → Answer → Type 0) (gives : ℕ → ℕ → Option (List ℕ) → Type 0) (recorded : Bool) (workers : ℕ) (keepers : List Keeping) (scripts : List Script) (log : Option (List ℕ)) → FrontWritten told gives recorded workers keepers scripts log log
unwritten told gives true workers keepers scripts log = ([], (0, Appends-nil log))
unwritten told gives false workers keepers scripts log = Appends-nil log
