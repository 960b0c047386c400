-- The error line for each error.
use Rattle.std.specs.Prelude.{◌≡◌, ℕ, ◌+◌, ◌-◌, List, slice_get, IfSome, Option, Some, None}
use Rattle.std.specs.Borrow.{Bor}
use Rattle.child_events.specs.declared.faults.LogFault.{LogFault}
use Rattle.child_events.specs.declared.faults.LogFault.TheVariants as logs
use Rattle.child_timeline.specs.declared.fault.TimelineFault.{TimelineFault}
use Rattle.child_timeline.specs.declared.fault.TimelineFault.TheVariants as lines
use Rattle.log_plan.specs.declared.fault.PlanFault.TheVariants as plans
use Rattle.dialogue_sched.specs.declared.hall.HallFault.{HallFault}
use Rattle.dialogue_sched.specs.declared.hall.HallFault.TheVariants as halls
use Rattle.dialogue_sched.specs.declared.refusal.HallRefusal.{HallRefusal}
use Rattle.dialogue_sched.specs.declared.refusal.HallRefusal.TheVariants.{NoSuchScript, NoSuchChild, MomentTooLarge, PieceTooLong}
use Rattle.dialogue_sched.specs.declared.run.RunFault.{RunFault}
use Rattle.dialogue_sched.specs.declared.run.RunFault.TheVariants as run
use Rattle.child_serve.specs.declared.serving.ServeFault.TheVariants as serve
use Rattle.expect_prog.specs.declared.complaint.Complaint.{Complaint}
use Rattle.expect_prog.specs.declared.complaint.Complaint.TheVariants as line
use Rattle.expect_prog.specs.declared.complaint.Wrong.{Wrong}
use Rattle.expect_prog.specs.declared.complaint.Wrong.TheVariants as wrong
use Rattle.script_runs.specs.declared.driving.DriveFault.{DriveFault}
use Rattle.script_runs.specs.declared.driving.DriveFault.TheVariants as drive
use Rattle.course_texts.specs.declared.explaining.ExplainFault.{ExplainFault}
use Rattle.course_texts.specs.declared.explaining.ExplainFault.TheVariants as explain
use Rattle.script_runs.specs.declared.fault.ReplayFault.{ReplayFault}
use Rattle.script_runs.specs.declared.fault.ReplayFault.TheVariants as replay
use Rattle.script_runs.specs.declared.planning.PlanLogFault.{PlanLogFault}
use Rattle.script_runs.specs.declared.planning.PlanLogFault.TheVariants as plan
use Rattle.command_line.specs.Given.{file_of_lines}
use Rattle.course_texts.specs.declared.showing.ShowFault.{ShowFault}
use Rattle.course_texts.specs.declared.showing.ShowFault.TheVariants as show

abbrev pub refusal_number : HallRefusal → ℕ
refusal_number NoSuchScript = 1
refusal_number NoSuchChild = 2
refusal_number MomentTooLarge = 3
refusal_number PieceTooLong = 4

abbrev pub LogLine : LogFault → Complaint → Type 0
LogLine (logs.Shape n) c = c ≡ line.Log 1 n
LogLine (logs.Number n) c = c ≡ line.Log 2 n
LogLine (logs.Hex n) c = c ≡ line.Log 3 n
LogLine (logs.NoSuchScript n) c = c ≡ line.Log 4 n
LogLine (logs.NoSuchChild n) c = c ≡ line.Log 5 n
LogLine (logs.TooLong n) c = c ≡ line.Log 6 n
LogLine (logs.Total n) c = c ≡ line.Log 8 n
LogLine (logs.Version n) c = c ≡ line.Log 9 n
LogLine logs.Memory c = c ≡ line.Memory

-- A line that names the file of script `n`. The first file is that of script 1.
abbrev pub IsTooLong : List (Bor (List ℕ)) → ℕ → Complaint → Type 0
IsTooLong files n (line.SourceTooLong path) = IfSome (slice_get files (n - 1)) (λ file. path ≡ file)
IsTooLong files n c = ⊥

-- A log that can't be read is named by its file.
abbrev pub IsUnreadable : Bor (List ℕ) → Complaint → Type 0
IsUnreadable file (line.Unreadable path) = path ≡ file
IsUnreadable file c = ⊥

abbrev pub OpeningLine : List (Bor (List ℕ)) → HallFault → Complaint → Type 0
OpeningLine files halls.TooManyScripts c = c ≡ line.TooManyScripts
OpeningLine files (halls.SourceTooLong n) c = IsTooLong files n c
OpeningLine files halls.Memory c = c ≡ line.Memory

-- Events are counted from 1 here.
abbrev pub RunLine : List (Bor (List ℕ)) → RunFault → Complaint → Type 0
RunLine files (run.Refused at r) c = c ≡ line.Event (at + 1) (refusal_number r)
RunLine files (run.New f) c = OpeningLine files f c
RunLine files run.Memory c = c ≡ line.Memory

-- The line for an error of a replay, with this log file and these script files.
abbrev pub FaultLine : Bor (List ℕ) → List (Bor (List ℕ)) → ReplayFault → Complaint → Type 0
FaultLine log files replay.Read c = IsUnreadable log c
FaultLine log files (replay.Log f) c = LogLine f c
FaultLine log files (replay.Run f) c = RunLine files f c
FaultLine log files replay.Write c = c ≡ line.Unwritten
FaultLine log files replay.Memory c = c ≡ line.Memory

-- The line for an error of `show`, with this log file.
abbrev pub ShowLine : Bor (List ℕ) → ShowFault → Complaint → Type 0
ShowLine log show.Read c = IsUnreadable log c
ShowLine log (show.Log f) c = LogLine f c
ShowLine log show.Write c = c ≡ line.Unwritten
ShowLine log show.Memory c = c ≡ line.Memory

-- The line for an error of `explain`, with this log file and these script files.
abbrev pub ExplainLine : Bor (List ℕ) → List (Bor (List ℕ)) → ExplainFault → Complaint → Type 0
ExplainLine log files explain.Read c = IsUnreadable log c
ExplainLine log files (explain.Log f) c = LogLine f c
ExplainLine log files explain.TooManyScripts c = c ≡ line.TooManyScripts
ExplainLine log files (explain.SourceTooLong n) c = IsTooLong files n c
ExplainLine log files explain.Write c = c ≡ line.Unwritten
ExplainLine log files explain.Memory c = c ≡ line.Memory

-- A file that can't be written is named by its path.
abbrev pub IsNotWritten : Bor (List ℕ) → Complaint → Type 0
IsNotWritten file (line.NotWritten path reason) = path ≡ file
IsNotWritten file c = ⊥

-- The line for an error in writing the explanation of a run to this file.
abbrev pub AccountLine : Bor (List ℕ) → ExplainFault → Complaint → Type 0
AccountLine file explain.Memory c = c ≡ line.Memory
AccountLine file explain.Read c = IsNotWritten file c
AccountLine file (explain.Log f) c = IsNotWritten file c
AccountLine file explain.TooManyScripts c = IsNotWritten file c
AccountLine file (explain.SourceTooLong n) c = IsNotWritten file c
AccountLine file explain.Write c = IsNotWritten file c

-- A line that names a line of a file, and what is wrong there.
abbrev pub BadLine : Bor (List ℕ) → ℕ → Wrong → Complaint → Type 0
BadLine file n what (line.Timeline path number told) = (path ≡ file) × (number ≡ n) × (told ≡ what)
BadLine file n what c = ⊥

abbrev pub TimelineLine : Bor (List ℕ) → TimelineFault → Complaint → Type 0
TimelineLine file (lines.Shape n) c = BadLine file n wrong.Shape c
TimelineLine file (lines.Moment n) c = BadLine file n wrong.Moment c
TimelineLine file (lines.Back n) c = BadLine file n wrong.Back c
TimelineLine file (lines.Child n) c = BadLine file n wrong.Child c
TimelineLine file (lines.Cause n) c = BadLine file n wrong.Cause c
TimelineLine file (lines.Text n) c = BadLine file n wrong.Text c
TimelineLine file (lines.Status n) c = BadLine file n wrong.Status c
TimelineLine file (lines.Again n) c = BadLine file n wrong.Again c
TimelineLine file lines.Header c = BadLine file 1 wrong.Header c
TimelineLine file (lines.Event n) c = BadLine file n wrong.Event c
TimelineLine file lines.Memory c = c ≡ line.Memory

-- A script with too many requests at one moment is named by its file, with the moment.
abbrev pub IsUnending : Bor (List ℕ) → ℕ → Complaint → Type 0
IsUnending file m (line.Unending path moment) = (path ≡ file) × (moment ≡ m)
IsUnending file m c = ⊥

abbrev pub IsLongSource : Bor (List ℕ) → Complaint → Type 0
IsLongSource file (line.SourceTooLong path) = path ≡ file
IsLongSource file c = ⊥

-- The line for an error of `plan`, with these files of a script, a timeline and its timing.
abbrev pub PlanLine : Bor (List ℕ) → Bor (List ℕ) → Option (Bor (List ℕ)) → PlanLogFault → Complaint → Type 0
PlanLine script timeline timing plan.Read c = IsUnreadable timeline c
PlanLine script timeline timing (plan.Timeline f) c = TimelineLine (file_of_lines timeline timing) f c
PlanLine script timeline timing (plan.Plan plans.SourceTooLong) c = IsLongSource script c
PlanLine script timeline timing (plan.Plan (plans.Unending m)) c = IsUnending script m c
PlanLine script timeline timing (plan.Plan plans.Memory) c = c ≡ line.Memory
PlanLine script timeline timing plan.Write c = c ≡ line.Unwritten
PlanLine script timeline timing plan.Memory c = c ≡ line.Memory

-- The line for an error of a run, with these script files.
abbrev pub DriveLine : List (Bor (List ℕ)) → DriveFault → Complaint → Type 0
DriveLine files (drive.Serve (serve.New f)) c = OpeningLine files f c
DriveLine files (drive.Serve serve.NoThread) c = c ≡ line.NoThread
DriveLine files (drive.Serve serve.Memory) c = c ≡ line.Memory
DriveLine files drive.Memory c = c ≡ line.Memory
