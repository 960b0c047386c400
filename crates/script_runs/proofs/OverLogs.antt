-- What scripts over a slice answer, they answer over the log that a reader had left, where its bytes are known.
use Rattle.std.proofs.Common.{◌≡◌, ℕ, List, Bool, Some, None, ap, subst, ◌∙◌}
use Rattle.std.specs.Prelude.{Option, option_map, IfSome, Result, Ok, Err}
use Rattle.child_events.specs.declared.event.HallEvent.{HallEvent}
use Rattle.child_events.specs.declared.faults.LogFault.{LogFault}
use Rattle.child_events.specs.Reading.{Refused}
use Rattle.child_events.specs.Judging.{SaysLog}
use Rattle.session.specs.declared.report.Report.{Report}
use Rattle.dialogue_sched.specs.declared.script.Script.{Script}
use Rattle.report_texts.proofs.Carried.{carried}
use Rattle.script_runs.specs.declared.fault.ReplayFault.{ReplayFault}
use Rattle.script_runs.specs.declared.fault.ReplayFault.TheVariants.{Read, Log, Run, Write, Memory}
use Rattle.script_runs.specs.Replay.{log_of, RunOver, RunOrFault, ReportsOver, ReportsRead}

-- the reports over what the log of these bytes says
pub over_log : (scripts : List Script) (bytes : List ℕ) (said : Result (List HallEvent) LogFault) (r : Result (List Report) ReplayFault) → SaysLog bytes said → RunOrFault scripts said r → ReportsOver scripts bytes r
over_log scripts bytes said (Ok reports) text ran = record { events = ran.0; log = subst (SaysLog bytes) ran.1 text; runs = ran.2 }
over_log scripts bytes said (Err Read) text ran = ran
over_log scripts bytes said (Err (Log f)) text ran = (ran.0, subst (SaysLog bytes) ran.1 text)
over_log scripts bytes said (Err (Run f)) text ran = (ran.0, record { events = ran.1.0; log = subst (SaysLog bytes) ran.1.1 text; runs = ran.1.2 })
over_log scripts bytes said (Err Write) text ran = ran
over_log scripts bytes said (Err Memory) text ran = tt

-- and where its bytes are those that a reader had left
pub over_read : (scripts : List Script) (known : Option (List ℕ)) (text slice : List ℕ) (failures calls : ℕ) (r : Result (List Report) ReplayFault) → IfSome known (λ bytes. text ≡ bytes) → slice ≡ text → ReportsOver scripts slice r → ReportsRead scripts known failures calls r
over_read scripts known text slice failures calls (Ok reports) is same ran = carried (λ (bytes : List ℕ). RunOver scripts bytes (Ok reports)) known text slice is same ran
over_read scripts known text slice failures calls (Err Read) is same ran = absurd ran
over_read scripts known text slice failures calls (Err (Log f)) is same ran = (ran.0, carried (λ (bytes : List ℕ). Refused bytes f) known text slice is same ran.1)
over_read scripts known text slice failures calls (Err (Run f)) is same ran = (ran.0, carried (λ (bytes : List ℕ). RunOver scripts bytes (Err f)) known text slice is same ran.1)
over_read scripts known text slice failures calls (Err Write) is same ran = ran
over_read scripts known text slice failures calls (Err Memory) is same ran = tt

-- the log that is read of the bytes that a reader had left
pub read_as : (cut : Bool) (known : Option (List ℕ)) (text log : List ℕ) → IfSome known (λ bytes. text ≡ bytes) → log ≡ log_of cut text → IfSome (option_map (log_of cut) known) (λ bytes. log ≡ bytes)
read_as cut None text log is made = tt
read_as cut (Some bytes) text log is made = made ∙ ap (log_of cut) is
