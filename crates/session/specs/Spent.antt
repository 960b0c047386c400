-- The report of a script that was refused memory.
use Rattle.std.specs.Prelude.{◌≡◌, ◌≢◌, ◌⊎◌, ℕ, List, [], false, IsTrue, Option, None}
use Rattle.child_events.specs.declared.event.Event.{Event}
use Rattle.tcl_host.specs.declared.ending.Ending.TheVariants.{Memory}
use Rattle.expect_core.specs.declared.request.Request.{Request}
use Rattle.expect_core.specs.declared.settings.Settings.{Settings}
use Rattle.session.specs.declared.report.Report.{Report}
use Rattle.session.specs.Left.{Kept, left, Fed, HandsOut}
use Rattle.session.specs.Meaning.{meaning}

-- Only the ending.
abbrev pub memory_report : Report
memory_report = record {
  ending = Memory;
  fault = [];
  trail = [];
  transcript = [];
  vars = [];
  requests = [];
  sent = [];
  steps = 0;
  starting = None;
}

-- The report of a session, or the report of a script that was refused memory. The report itself may be refused memory.
pub record Reports (k : Kept) (r : Report) : Type 0 where
  pub lives : IsTrue k.lives → (r ≡ left k []) ⊎ (r ≡ memory_report)
  pub spent : k.lives ≡ false → r ≡ memory_report

-- No meaning of a script has the ending `Memory`. Only its run can be refused memory.
abbrev pub NoneMeansMemory : Type 0
NoneMeansMemory = (source : List ℕ) (settings : Settings) (events : List Event) → (meaning source settings events).ending ≢ Memory

-- No report of a session that was not refused memory has that ending, whatever events come later.
abbrev pub SaysNoMemory : Kept → Type 0
SaysNoMemory k = IsTrue k.lives → (later : List Event) → (left k later).ending ≢ Memory

-- `SaysNoMemory` holds of a new session, and stays. If a session's report has that ending, memory was therefore
-- refused.
pub record StaysSpared : Type 0 where
  pub begins : (source : List ℕ) (settings : Settings) (k : Kept) → (IsTrue k.lives → (later : List Event) → left k later ≡ meaning source settings later) → SaysNoMemory k
  pub fed : (old new : Kept) (events : List Event) → Fed old events new → SaysNoMemory old → SaysNoMemory new
  pub handed : (old new : Kept) (request : Option Request) → HandsOut old request new → SaysNoMemory old → SaysNoMemory new
