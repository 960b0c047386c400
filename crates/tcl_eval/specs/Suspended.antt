-- Machines that can be suspended and resumed.
use Rattle.std.specs.Prelude.{◌≡◌, List, Option, Some, None}
use Rattle.tcl_eval.specs.declared.machine.Pause.{Pause}
use Rattle.tcl_eval.specs.declared.machine.Pause.TheVariants.{Finished, Waits, Stopped, StepLimit, Memory}
use Rattle.tcl_eval.specs.declared.frame.End.{End}
use Rattle.tcl_eval.specs.declared.frame.End.TheVariants.{Finished as FinishedSo, Stopped as StoppedSo, StepLimit as AtLimit, Memory as NoMemory}
use Rattle.tcl_eval.specs.declared.frame.Mode.{Mode}
use Rattle.tcl_eval.specs.declared.frame.Mode.TheVariants.{Ended}
use Rattle.tcl_host.specs.Calls.{Reply}
use Rattle.tcl_eval.specs.Tree.{Over}
use Rattle.tcl_eval.specs.Meaning.{Next}
use Rattle.tcl_eval.specs.Asked.{EndsInWait, IsAsking}

-- The end of the source is the end of the run.
abbrev pub at_the_end : Next
at_the_end c v st = Over (FinishedSo c v) st

-- The end of a run, or `None` if it has not ended.
abbrev pub end_of : Mode → Option End
end_of (Ended end) = Some end
end_of _ = None

abbrev pub IsOver : Mode → Type 0
IsOver (Ended end) = Unit {0}
IsOver _ = ⊥

abbrev pub IsSuspended : Mode → Type 0
IsSuspended (Ended end) = ⊥
IsSuspended _ = Unit {0}

-- A run may return `Memory`: it ended so, or its value has to be copied.
abbrev pub CanBeRefused : Mode → Type 0
CanBeRefused (Ended NoMemory) = Unit {0}
CanBeRefused (Ended (FinishedSo c v)) = Unit {0}
CanBeRefused _ = ⊥

-- The pause that a machine shows.
abbrev pub IsShownBy : Pause → Mode → Type 0
IsShownBy Waits mode = IsSuspended mode
IsShownBy (Finished c v) mode = mode ≡ Ended (FinishedSo c v)
IsShownBy (Stopped e) mode = mode ≡ Ended (StoppedSo e)
IsShownBy StepLimit mode = mode ≡ Ended AtLimit
IsShownBy Memory mode = CanBeRefused mode

-- The run has ended with this pause, or it waits in a call and the last reply was `Wait`.
abbrev pub IsPauseOf : Pause → Mode → List Reply → Type 0
IsPauseOf Waits mode replies = EndsInWait replies × IsAsking mode
IsPauseOf (Finished c v) mode replies = mode ≡ Ended (FinishedSo c v)
IsPauseOf (Stopped e) mode replies = mode ≡ Ended (StoppedSo e)
IsPauseOf StepLimit mode replies = mode ≡ Ended AtLimit
IsPauseOf Memory mode replies = Unit {0}
