-- Each request names a child that a script can have.
use Rattle.std.specs.Prelude.{◌≡◌, ℕ, List, All, IsTrue, Option, IfSome}
use Rattle.child_events.specs.declared.event.Event.{Event}
use Rattle.expect_core.specs.declared.request.Request.{Request}
use Rattle.expect_core.specs.declared.settings.Settings.{Settings}
use Rattle.expect_core.specs.Numbered.{NamesAChild}
use Rattle.session.specs.Meaning.{meaning}
use Rattle.session.specs.Left.{Kept, left, Fed, HandsOut}

-- Each request in the meaning of a script names a child from 1 to 16.
abbrev pub AllNameAChild : Type 0
AllNameAChild = (source : List ℕ) (settings : Settings) (events : List Event) → All NamesAChild (meaning source settings events).requests

-- So does each request of a session's report, whatever events come later.
abbrev pub AsksChildren : Kept → Type 0
AsksChildren k = IsTrue k.lives → (later : List Event) → All NamesAChild (left k later).requests

-- `AsksChildren` holds of a new session, and stays. Each request that is handed out therefore names a child from 1 to
-- 16.
pub record StaysAsking : Type 0 where
  pub begins : (source : List ℕ) (settings : Settings) (k : Kept) → (IsTrue k.lives → (later : List Event) → left k later ≡ meaning source settings later) → AsksChildren k
  pub fed : (old new : Kept) (events : List Event) → Fed old events new → AsksChildren old → AsksChildren new
  pub handed : (old new : Kept) (request : Option Request) → HandsOut old request new → AsksChildren old → AsksChildren new × IfSome request NamesAChild
