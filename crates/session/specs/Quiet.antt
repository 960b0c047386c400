-- How long a session's report stays the same if only time passes.
use Rattle.std.specs.Prelude.{◌≡◌, ℕ, [], ◌∷◌, if◌then◌else◌, Option, None, is_some}
use Rattle.child_events.specs.declared.event.Event.TheVariants.{Tick}
use Rattle.tcl_eval.specs.declared.engine.Engine.{Engine}
use Rattle.tcl_eval.specs.declared.frame.Mode.{Mode}
use Rattle.tcl_eval.specs.Rest.{engine_rest}
use Rattle.tcl_eval.specs.Suspended.{end_of}
use Rattle.expect_core.specs.declared.dialogue.Dialogue.{Dialogue}
use Rattle.expect_core.specs.Lanes.{offered}
use Rattle.expect_core.specs.Deadlines.{IsWithin, deadline_of}
use Rattle.session.specs.Play.{play}
use Rattle.session.specs.Left.{Kept, left}

-- The deadline of a dialogue. A run that has ended has none.
abbrev pub deadline_in : Mode → Dialogue → Option ℕ
deadline_in mode st = if is_some (end_of mode) then None else deadline_of st

-- The last moment up to which a session waits, or `None`.
abbrev pub waits_until : Kept → Option ℕ
waits_until k = if k.lives then deadline_in k.mode k.dialogue else None

-- A tick no later than `last` doesn't change the report. If `last` is `None`, no tick changes it.
abbrev pub QuietUntil : Kept → Option ℕ → Type 0
QuietUntil k last = (m : ℕ) → IsWithin m last → left k (Tick m ∷ []) ≡ left k []

-- A tick no later than its deadline doesn't change the report of a paused machine.
pub record Quiet (engine : Engine) (mode : Mode) (steps : ℕ) (st : Dialogue) : Type 0 where
  pub tick : (bound m : ℕ) → IsWithin m (deadline_in mode st) → play bound (engine_rest engine steps mode) (offered (Tick m) st) ≡ play bound (engine_rest engine steps mode) st
