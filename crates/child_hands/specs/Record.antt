-- A record of events, and the items of its ring.
use Rattle.std.specs.Prelude.{ℕ, ◌≤◌, List, [], ◌∷◌}
use Rattle.std.specs.List.{flat_map}
use Rattle.child_events.specs.declared.event.HallEvent.{HallEvent}
use Rattle.child_events.specs.declared.event.HallEvent.TheVariants as hall
use Rattle.child_hands.specs.declared.log_item.LogItem.{LogItem}
use Rattle.child_hands.specs.declared.log_item.LogItem.TheVariants.{Event, Still}

abbrev pub moment_in : HallEvent → ℕ
moment_in (hall.Child s c m x) = m
moment_in (hall.Tick m) = m

-- The moments don't decrease, and none is below `least`.
abbrev pub AscendsFrom : ℕ → List HallEvent → Type 0
AscendsFrom least [] = Unit {0}
AscendsFrom least (e ∷ es) = (least ≤ moment_in e) × AscendsFrom (moment_in e) es

-- The moments don't decrease.
abbrev pub Ascends : List HallEvent → Type 0
Ascends es = AscendsFrom 0 es

abbrev pub events_at : LogItem → List HallEvent
events_at (Event e) = e ∷ []
events_at (Still m) = []

-- The events among items.
abbrev pub events_in : List LogItem → List HallEvent
events_in xs = flat_map events_at xs

abbrev pub moment_at : LogItem → ℕ
moment_at (Event e) = moment_in e
moment_at (Still m) = m

-- The moments of the items don't decrease, and none is below `least`.
abbrev pub ItemsAscendFrom : ℕ → List LogItem → Type 0
ItemsAscendFrom least [] = Unit {0}
ItemsAscendFrom least (x ∷ xs) = (least ≤ moment_at x) × ItemsAscendFrom (moment_at x) xs
