-- Until a dialogue takes something, it holds the world that its events make.
use Rattle.std.specs.Prelude.{◌≡◌, List, map}
use Rattle.child_events.specs.declared.event.Event.{Event}
use Rattle.child_events.specs.World.{Lane as Known}
use Rattle.child_events.specs.World.{World}
use Rattle.child_events.specs.Queue.{came}
use Rattle.child_events.specs.World.{grown_all, fresh as nothing_known}
use Rattle.expect_core.specs.declared.lanes.Lane.{Lane}
use Rattle.expect_core.specs.declared.settings.Settings.{Settings}
use Rattle.expect_core.specs.declared.dialogue.Dialogue.{Dialogue}
use Rattle.expect_core.specs.Lanes.{extended}
use Rattle.expect_core.specs.Calls.{fresh}

-- What is known of a child, none of it taken.
abbrev pub untaken : Known → Lane
untaken k = record { items = map came k.items; answers = k.answers; over = k.over }

pub record Holds (st : Dialogue) (w : World) : Type 0 where
  pub horizon : st.horizon ≡ w.horizon
  pub lanes : st.lanes ≡ map untaken w.lanes

abbrev pub HoldsWorlds : Type 0
HoldsWorlds = (settings : Settings) (es : List Event) → Holds (extended es (fresh settings)) (grown_all nothing_known es)
