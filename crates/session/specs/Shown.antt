-- The report of a paused machine.
use Rattle.std.specs.Prelude.{◌≡◌, ℕ, ◌-◌, List, [], IsTrue, Option, Some, None}
use Rattle.child_events.specs.declared.event.Event.{Event}
use Rattle.tcl_host.specs.declared.ending.Ending.TheVariants as ending
use Rattle.tcl_eval.specs.declared.engine.Engine.{Engine}
use Rattle.tcl_eval.specs.declared.frame.Mode.{Mode}
use Rattle.tcl_eval.specs.declared.frame.End.{End}
use Rattle.tcl_eval.specs.Rest.{engine_rest}
use Rattle.tcl_eval.specs.Suspended.{end_of}
use Rattle.expect_core.specs.declared.dialogue.Dialogue.{Dialogue}
use Rattle.expect_core.specs.Lanes.{extended}
use Rattle.expect_core.specs.Good.{Good}
use Rattle.session.specs.declared.report.Report.{Report}
use Rattle.session.specs.Play.{said, over_with, play}
use Rattle.session.specs.Quiet.{Quiet}

-- The report of a machine that has ended, or waits.
abbrev pub shown_at : Option End → ℕ → Engine → Dialogue → Report
shown_at (Some e) steps engine st = over_with e engine.trail steps engine.vars st
shown_at None steps engine st = said ending.Waiting [] [] steps engine.vars st

-- The report of a paused machine.
abbrev pub shown : ℕ → Engine → Mode → ℕ → Dialogue → Report
shown bound engine mode left st = shown_at (end_of mode) (bound - left) engine st

-- A run to a pause. The report for any later events stays the same. The report for none is the paused machine's, and
-- ticks up to the deadline don't change it.
pub record Ran (old : Engine) (was : Mode) (had : ℕ) (before : Dialogue) (new : Engine) (is : Mode) (has : ℕ) (after : Dialogue) : Type 0 where
  pub lived : IsTrue before.lives
  pub good : Good after
  pub says : (bound : ℕ) (later : List Event) → play bound (engine_rest new has is) (extended later after) ≡ play bound (engine_rest old had was) (extended later before)
  pub shows : (bound : ℕ) → play bound (engine_rest new has is) after ≡ shown bound new is has after
  pub quiet : Quiet new is has after
