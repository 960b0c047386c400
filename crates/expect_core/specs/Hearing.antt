-- A wait for patterns of several children, step by step.
use Rattle.std.specs.Prelude.{◌≡◌, ℕ, ◌<◌, List, [], ◌∷◌, true, false, Option, Some, None}
use Rattle.child_events.specs.declared.event.Item.{Item}
use Rattle.child_events.specs.Queue.{Queued, stamped}
use Rattle.child_events.specs.Next.{next_of}
use Rattle.expect_core.specs.declared.lanes.Lane.{Lane}
use Rattle.expect_core.specs.declared.listen.Times.{Times}
use Rattle.expect_core.specs.declared.plan.Plan.{Plan}
use Rattle.expect_core.specs.declared.phase.Heard.{Heard}
use Rattle.expect_core.specs.declared.own.Own.{Own}
use Rattle.expect_core.specs.Lanes.{lane_of, with_items}
use Rattle.expect_core.specs.Heard.{in_time, watched, lapse, Listened, heads, taken, on_next, item_count}

-- A wait ends, or goes on.
abbrev pub goes : Option Heard → List Lane → Own → (Own → Listened) → Listened
goes None lanes o k = k o
goes (Some h) lanes o k = (h, lanes, o)

abbrev pub turns : Option Heard → List Lane → Own → (List Lane → Own → Listened) → Listened
turns None lanes o k = k lanes o
turns (Some h) lanes o k = (h, lanes, o)

-- There is no first item, or it is not in time.
abbrev pub NoneInTime : Times → Option ℕ → List Queued → Type 0
NoneInTime times d [] = Unit {0}
NoneInTime times d (q ∷ qs) = in_time times.limit d q.moment ≡ false

-- The first item is taken if it is in time.
abbrev pub Takes : Times → Option ℕ → List Queued → Option (ℕ × Item) → List Queued → Type 0
Takes times d old None new = (new ≡ old) × NoneInTime times d old
Takes times d old (Some x) new = (q : Queued) × (old ≡ q ∷ new) × (stamped q ≡ x) × (in_time times.limit d q.moment ≡ true)

-- The first item of the child at a place is taken if it is in time.
abbrev pub TakesFrom : Times → Option ℕ → ℕ → List Lane → Option (ℕ × Item) → List Lane → Type 0
TakesFrom times d i old None new = (new ≡ old) × NoneInTime times d (lane_of i old).items
TakesFrom times d i old (Some x) new =
    (q : Queued) × (qs : List Queued) × ((lane_of i old).items ≡ q ∷ qs) × (new ≡ with_items i qs old) × (stamped q ≡ x) × (in_time times.limit d q.moment ≡ true)

-- One turn of a wait, given what follows it.
abbrev pub turned : Times → Plan → List Lane → Own → (List Lane → Own → Listened) → Listened
turned times p lanes o k = on_next times.limit times.horizon p (next_of (heads (watched p) lanes) times.horizon) lanes o k

-- A turn that goes on has taken an item.
abbrev pub IsFewer : Option Heard → List Lane → List Lane → Type 0
IsFewer None old new = item_count new < item_count old
IsFewer (Some h) old new = Unit {0}

-- A turn for the next item of the child at a place.
abbrev pub at_child : Times → Plan → Option ℕ → List Lane → Own → (List Lane → Own → Listened) → Listened
at_child times p None lanes o k = (lapse times.limit times.horizon p.deadline, lanes, o)
at_child times p (Some i) lanes o k = taken times.limit times.horizon p i (lane_of i lanes).items lanes o k
