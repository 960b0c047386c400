-- The reports of whole runs.
use Rattle.std.specs.Prelude.{◌≡◌, ℕ, ◌+◌, List, [], ◌∷◌, ◌⊎◌, length, slice_get, Some, None, Result, Ok, Err}
use Rattle.child_events.specs.declared.event.HallEvent.{HallEvent}
use Rattle.child_events.specs.declared.faults.LogFault.{LogFault}
use Rattle.child_events.specs.World.{own, raised}
use Rattle.session.specs.declared.report.Report.{Report}
use Rattle.session.specs.Meaning.{meaning}
use Rattle.session.specs.Spent.{memory_report}
use Rattle.dialogue_sched.specs.declared.script.Script.{Script}
use Rattle.dialogue_sched.specs.declared.run.RunFault.{RunFault}
use Rattle.dialogue_sched.specs.declared.run.RunFault.TheVariants.{Refused, New}
use Rattle.dialogue_sched.specs.declared.run.RunFault.TheVariants as run
use Rattle.dialogue_sched.specs.declared.run.LogRunFault.{LogRunFault}
use Rattle.dialogue_sched.specs.declared.run.LogRunFault.TheVariants.{Log, Run}
use Rattle.dialogue_sched.specs.Refusal.{first_refusal}
use Rattle.dialogue_sched.specs.Hall.{opening_fault, AllBegin}
use Rattle.session.specs.Left.{Kept}
use Rattle.dialogue_sched.specs.Took.{AllTook}

-- Each report is the meaning of its script's source, settings and own events, and of nothing else. Or it is the report
-- of a script that was refused memory.
abbrev pub AllMean : ℕ → List HallEvent → List Script → List Report → Type 0
AllMean n es [] [] = Unit {0}
AllMean n es [] (r ∷ rs) = ⊥
AllMean n es (s ∷ ss) [] = ⊥
AllMean n es (s ∷ ss) (r ∷ rs) = ((r ≡ meaning s.source s.settings (own n es)) ⊎ (r ≡ memory_report)) × AllMean (n + 1) es ss rs

-- The result of a run. It is `Memory` only if the hall, its parts or the copies of events were refused memory. No
-- report says so.
abbrev pub Runs : List Script → List HallEvent → Result (List Report) RunFault → Type 0
Runs scripts es (Ok rs) = (opening_fault scripts ≡ None) × (first_refusal (length scripts) 0 es ≡ None) × AllMean 1 es scripts rs
Runs scripts es (Err (New fault)) = opening_fault scripts ≡ Some fault
Runs scripts es (Err (Refused at r)) = (opening_fault scripts ≡ None) × (first_refusal (length scripts) 0 es ≡ Some (at, r))
Runs scripts es (Err run.Memory) = opening_fault scripts ≡ None

-- The result of opening a hall for a run.
abbrev pub OpensFor : List Script → Result (List Kept) RunFault → Type 0
OpensFor scripts (Ok ks) = (opening_fault scripts ≡ None) × AllBegin scripts ks
OpensFor scripts (Err (New fault)) = opening_fault scripts ≡ Some fault
OpensFor scripts (Err (Refused at r)) = ⊥
OpensFor scripts (Err run.Memory) = opening_fault scripts ≡ None

-- An error of a log comes before one of its run.
abbrev pub log_first : Result (List HallEvent) LogFault → RunFault → LogRunFault
log_first (Ok es) fault = Run fault
log_first (Err f) fault = Log f

-- Why there is no next part of a log.
abbrev pub StopsAtPart : Result (List HallEvent) LogFault → LogRunFault → Type 0
StopsAtPart said (Log f) = said ≡ Err f
StopsAtPart said (Run f) = f ≡ run.Memory

-- The result of a hall that takes the events of a log.
abbrev pub TakesLog : Result (List HallEvent) LogFault → List Kept → List Kept → Result (Unit {0}) LogRunFault → Type 0
TakesLog said old new (Ok done) = (es : List HallEvent) × (said ≡ Ok es) × (first_refusal (length old) 0 es ≡ None) × AllTook 1 es old new
TakesLog said old new (Err (Log f)) = said ≡ Err f
TakesLog said old new (Err (Run (New fault))) = ⊥
TakesLog said old new (Err (Run (Refused at r))) = (es : List HallEvent) × (said ≡ Ok es) × (first_refusal (length old) 0 es ≡ Some (at, r))
TakesLog said old new (Err (Run run.Memory)) = Unit {0}

-- The result of a run over the events of a log.
abbrev pub RunsSaid : List Script → Result (List HallEvent) LogFault → Result (List Report) RunFault → Type 0
RunsSaid scripts said answer = (es : List HallEvent) × (said ≡ Ok es) × Runs scripts es answer

-- The result of a run over a log: the log's first error, or the result of a run over its events. Memory may be refused
-- before it is known which.
abbrev pub RunsLog : List Script → Result (List HallEvent) LogFault → Result (List Report) LogRunFault → Type 0
RunsLog scripts said (Ok rs) = RunsSaid scripts said (Ok rs)
RunsLog scripts said (Err (Log f)) = said ≡ Err f
RunsLog scripts said (Err (Run (New fault))) = RunsSaid scripts said (Err (New fault))
RunsLog scripts said (Err (Run (Refused at r))) = RunsSaid scripts said (Err (Refused at r))
RunsLog scripts said (Err (Run run.Memory)) = opening_fault scripts ≡ None

-- Runs are isolated. Take two runs that contain one script, at any two numbers. If its own events are the same after
-- their moments are raised, its reports are the same, whatever the other scripts and events are. The exception is a
-- script that was refused memory.
abbrev pub Isolated : Type 0
Isolated = (i j : ℕ) (scripts scripts' : List Script) (es es' : List HallEvent) (reports reports' : List Report) (s : Script) (r r' : Report) →
    Runs scripts es (Ok reports) → Runs scripts' es' (Ok reports') →
    slice_get scripts i ≡ Some s → slice_get scripts' j ≡ Some s → raised (own (i + 1) es) ≡ raised (own (j + 1) es') →
    slice_get reports i ≡ Some r → slice_get reports' j ≡ Some r' →
    (r ≡ r') ⊎ ((r ≡ memory_report) ⊎ (r' ≡ memory_report))
