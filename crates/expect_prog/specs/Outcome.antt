-- How an order ends.
use Rattle.std.specs.Prelude.{ℕ, ◌+◌, List, [], ◌∷◌, ◌++◌, codes, Bool, if◌then◌else◌, Option, Some, None}
use Rattle.tcl_words.specs.Bytes as ascii
use Rattle.tcl_host.specs.declared.ending.Ending.{Ending}
use Rattle.tcl_host.specs.declared.ending.Ending.TheVariants.{Exit, Error, StepLimit, TimeLimit, Memory, Waiting}
use Rattle.session.specs.declared.report.Report.{Report}
use Rattle.course_texts.specs.Trail.{place_lines}
use Rattle.expect_prog.specs.declared.outcome.Outcome.{Outcome}
use Rattle.expect_prog.specs.declared.outcome.Outcome.TheVariants.{Well, Otherwise, Ended, Lost, Stopped}

-- The outcome of scripts and transcripts. A transcript that was not written counts more than how the scripts ended.
abbrev pub outcome_of : Bool → Bool → Outcome
outcome_of well whole = if whole then (if well then Well else Otherwise) else Lost

-- The outcome of a script that was run as a command.
abbrev pub outcome_ended : Ending → Outcome
outcome_ended (Exit n) = Ended n
outcome_ended Error = Ended 1
outcome_ended StepLimit = Ended 1
outcome_ended TimeLimit = Ended 1
outcome_ended Memory = Ended 1
outcome_ended Waiting = Ended 1

-- The line on standard error after such a script: the message of its error, or what stopped it. None after `exit`.
abbrev pub last_line : Ending → List ℕ → List ℕ
last_line (Exit n) fault = []
last_line Error fault = fault ++ ascii.newline ∷ []
last_line StepLimit fault = codes "exprun: steplimit" ++ ascii.newline ∷ []
last_line TimeLimit fault = codes "exprun: timelimit" ++ ascii.newline ∷ []
last_line Memory fault = codes "exprun: memory" ++ ascii.newline ∷ []
last_line Waiting fault = codes "exprun: waiting" ++ ascii.newline ∷ []

-- That line, and where the error occurred. The last place is FILE:LINE.
abbrev pub last_lines : List ℕ → Report → List ℕ
last_lines file r = last_line r.ending r.fault ++ place_lines (file ++ ascii.colon ∷ []) r.trail

-- The outcome with another file. A file that was not written counts more than all else.
abbrev pub outcome_and : Outcome → Bool → Outcome
outcome_and outcome whole = if whole then outcome else Lost

-- The outcome with a signal that may have stopped the run. The signal counts more than all else.
abbrev pub outcome_unless_stopped : Outcome → Option ℕ → Outcome
outcome_unless_stopped outcome (Some number) = Stopped number
outcome_unless_stopped outcome None = outcome

-- The exit status. For a signal, it is the status that a shell gives a command that the signal ended (POSIX XCU 2.8.2).
abbrev pub status_of : Outcome → ℕ
status_of Well = 0
status_of Otherwise = 1
status_of (Ended n) = n
status_of Lost = 2
status_of (Stopped number) = number + 128
