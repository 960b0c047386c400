-- What is left of a session: its report for any later events.
use Rattle.std.specs.Prelude.{◌≡◌, ℕ, List, [], ◌++◌, Bool, false, IsTrue, Option, None, is_some, slice_get, ◌+◌, if◌then◌else◌}
use Rattle.child_events.specs.declared.event.Event.{Event}
use Rattle.tcl_eval.specs.declared.engine.Engine.{Engine}
use Rattle.tcl_eval.specs.declared.frame.Mode.{Mode}
use Rattle.tcl_eval.specs.Rest.{engine_rest}
use Rattle.tcl_eval.specs.Suspended.{IsOver}
use Rattle.expect_core.specs.declared.request.Request.{Request}
use Rattle.expect_core.specs.declared.dialogue.Dialogue.{Dialogue}
use Rattle.expect_core.specs.Lanes.{extended}
use Rattle.session.specs.declared.report.Report.{Report}
use Rattle.session.specs.Play.{play, told}

-- The state of a session. `tells` says whether its report contains the variables, and `steps` is the number of steps
-- left. The dialogue has no event that a command has taken. If the session was refused memory, `lives` is false, and
-- only its report of that is promised.
pub record Kept : Type 0 where
  pub bound : ℕ
  pub tells : Bool
  pub engine : Engine
  pub mode : Mode
  pub steps : ℕ
  pub dialogue : Dialogue
  pub handed : ℕ
  pub lives : Bool

-- The session's report for these later events.
unfoldable pub left : Kept → List Event → Report
left k later = told k.tells (play k.bound (engine_rest k.engine k.steps k.mode) (extended later k.dialogue))

-- From `old` to `new`, exactly these events came, unless memory was refused. They change nothing if the script has
-- ended.
pub record Fed (old : Kept) (events : List Event) (new : Kept) : Type 0 where
  pub handed : new.handed ≡ old.handed
  pub lived : IsTrue new.lives → IsTrue old.lives
  pub over : IsOver old.mode → new ≡ old
  pub says : IsTrue new.lives → (later : List Event) → left new later ≡ left old (events ++ later)

-- The transcript of the report for no later events. Empty if memory was refused.
pub record HasShown (k : Kept) (bytes : List ℕ) : Type 0 where
  pub lives : IsTrue k.lives → bytes ≡ (left k []).transcript
  pub spent : k.lives ≡ false → bytes ≡ []

-- The requests of that report. Empty if memory was refused.
pub record HasAsked (k : Kept) (requests : List Request) : Type 0 where
  pub lives : IsTrue k.lives → requests ≡ (left k []).requests
  pub spent : k.lives ≡ false → requests ≡ []

-- The number of steps of that report. 0 if memory was refused.
pub record HasBegun (k : Kept) (steps : ℕ) : Type 0 where
  pub lives : IsTrue k.lives → steps ≡ (left k []).steps
  pub spent : k.lives ≡ false → steps ≡ 0

-- The child whose start the script awaits, in that report. None if memory was refused.
pub record HasStarted (k : Kept) (child : Option ℕ) : Type 0 where
  pub lives : IsTrue k.lives → child ≡ (left k []).starting
  pub spent : k.lives ≡ false → child ≡ None

-- Hands out the next request, if there is one, and counts it.
pub record HandsOut (old : Kept) (request : Option Request) (new : Kept) : Type 0 where
  pub lives : new.lives ≡ old.lives
  pub says : (later : List Event) → left new later ≡ left old later
  pub next : IsTrue old.lives → request ≡ slice_get (left old []).requests old.handed
  pub spent : old.lives ≡ false → request ≡ None
  pub counted : new.handed ≡ (if is_some request then old.handed + 1 else old.handed)
