-- A time limit ends the scripts of a desk.
use Rattle.std.specs.Prelude.{◌≡◌, ◌≢◌, ℕ, ◌+◌, ◌<◌, slice_get, IsTrue, Some}
use Rattle.child_events.specs.World.{own, horizon_of}
use Rattle.tcl_host.specs.declared.ending.Ending.TheVariants.{Waiting}
use Rattle.session.specs.declared.report.Report.{Report}
use Rattle.session.specs.Left.{Kept}
use Rattle.session.specs.Spent.{Reports}
use Rattle.dialogue_sched.specs.declared.script.Script.{Script}
use Rattle.child_desk.specs.Book.{logged}
use Rattle.child_desk.specs.declared.book.Book.{Book}
use Rattle.child_desk.specs.declared.line.ScriptState.{ScriptState}
use Rattle.child_desk.specs.Told.{Rings}
use Rattle.child_desk.specs.Line.{Keeping, InLine}
use Rattle.child_desk.specs.Turn.{Turns, goes_on}

-- If the greatest moment of a script's own part of the record is past its limit, its report doesn't say that it waits.
abbrev pub LinesEnd : Type 0
LinesEnd = (rings : Rings) (keeper : Keeping) (script : Script) (at : ℕ) (line : ScriptState) (book : Book) (k : Kept) (r : Report) (limit : ℕ) →
    InLine rings keeper script at line book → slice_get book.hall at ≡ Some k → Reports k r →
    script.settings.limit_ms ≡ Some limit → limit < horizon_of (own (at + 1) (logged book)) → r.ending ≢ Waiting

-- A turn past the limit and past the stamp takes each script's part of the record past the limit.
abbrev pub TurnsPass : Type 0
TurnsPass = (now at limit : ℕ) (old new : Book) → Turns now old new → IsTrue (goes_on old.stamp now) → limit < now → limit < horizon_of (own (at + 1) (logged new))
