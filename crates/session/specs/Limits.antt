-- A time limit ends a script.
use Rattle.std.specs.Prelude.{◌≡◌, ◌≢◌, ℕ, ◌<◌, List, IsTrue, Option, Some}
use Rattle.child_events.specs.declared.event.Event.{Event}
use Rattle.child_events.specs.World.{horizon_from, horizon_of}
use Rattle.tcl_host.specs.declared.ending.Ending.TheVariants.{Waiting}
use Rattle.expect_core.specs.declared.request.Request.{Request}
use Rattle.expect_core.specs.declared.settings.Settings.{Settings}
use Rattle.session.specs.declared.report.Report.{Report}
use Rattle.session.specs.Left.{Kept, left, Fed, HandsOut}
use Rattle.session.specs.Spent.{Reports}
use Rattle.session.specs.Meaning.{meaning}

-- If the greatest moment of a script's events is past its limit, it doesn't wait.
abbrev pub LimitEnds : Type 0
LimitEnds = (source : List ℕ) (settings : Settings) (events : List Event) (limit : ℕ) →
    settings.limit_ms ≡ Some limit → limit < horizon_of events → (meaning source settings events).ending ≢ Waiting

-- The script of a session doesn't wait past this limit, whatever events come later. `horizon` is the greatest moment so
-- far.
abbrev pub EndsPast : ℕ → ℕ → Kept → Type 0
EndsPast limit horizon k = IsTrue k.lives → (later : List Event) → limit < horizon_from horizon later → (left k later).ending ≢ Waiting

-- `EndsPast` holds of a new session, and stays. A report past the limit therefore never says that the script waits,
-- even if memory was refused.
pub record StaysLimited : Type 0 where
  pub begins : (source : List ℕ) (settings : Settings) (limit : ℕ) (k : Kept) → settings.limit_ms ≡ Some limit → (IsTrue k.lives → (later : List Event) → left k later ≡ meaning source settings later) → EndsPast limit 0 k
  pub fed : (limit horizon : ℕ) (old new : Kept) (events : List Event) → Fed old events new → EndsPast limit horizon old → EndsPast limit (horizon_from horizon events) new
  pub handed : (limit horizon : ℕ) (old new : Kept) (request : Option Request) → HandsOut old request new → EndsPast limit horizon old → EndsPast limit horizon new
  pub reported : (limit horizon : ℕ) (k : Kept) (r : Report) → Reports k r → EndsPast limit horizon k → limit < horizon → r.ending ≢ Waiting
