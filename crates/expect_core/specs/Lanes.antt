-- What came from each child and was not taken yet, and how an event adds to it.
use Rattle.std.specs.Prelude.{◌≡◌, ℕ, ◌-◌, ◌==◌, max, List, [], ◌∷◌, ◌++◌, replicate, Bool, true, false, if◌then◌else◌, slice_set, slice_index_or}
use Rattle.child_events.specs.declared.event.Answer.{Answer}
use Rattle.child_events.specs.declared.event.What.{What}
use Rattle.child_events.specs.declared.event.What.TheVariants as what
use Rattle.child_events.specs.declared.event.Item.{Item}
use Rattle.child_events.specs.declared.event.Item.TheVariants as item
use Rattle.child_events.specs.declared.event.Event.{Event}
use Rattle.child_events.specs.declared.event.Event.TheVariants as event
use Rattle.child_events.specs.Queue.{Queued, stamped, came, how_many_came}
use Rattle.child_events.specs.World.{moment_of}
use Rattle.expect_core.specs.declared.lanes.Lane.{Lane}
use Rattle.expect_core.specs.declared.dialogue.Dialogue.{Dialogue}

abbrev pub no_lane : Lane
no_lane = record { items = []; answers = []; over = false }

abbrev pub lane_of : ℕ → List Lane → Lane
lane_of i lanes = slice_index_or lanes i no_lane

abbrev pub with_lane : ℕ → Lane → List Lane → List Lane
with_lane i lane lanes = slice_set lanes i lane

abbrev pub with_items : ℕ → List Queued → List Lane → List Lane
with_items i items lanes = with_lane i (record (lane_of i lanes) { items = items }) lanes

abbrev pub with_answers : ℕ → List (ℕ × Answer) → List Lane → List Lane
with_answers i answers lanes = with_lane i (record (lane_of i lanes) { answers = answers }) lanes

-- What comes from a child in order, as a lane keeps it. `stamp` is the moment and what came.
pub record Inbox (X Y : Type 0) : Type 0 where
  pub stamp : X → ℕ × Y
  pub read : Lane → List X
  pub put : List X → Lane → Lane

abbrev pub answer_box : Inbox (ℕ × Answer) Answer
answer_box = record { stamp = λ a. a; read = λ lane. lane.answers; put = λ l lane. record lane { answers = l } }

abbrev pub item_box : Inbox Queued Item
item_box = record { stamp = λ q. stamped q; read = λ lane. lane.items; put = λ l lane. record lane { items = l } }

abbrev pub with_left : {X Y : Type 0} → Inbox X Y → ℕ → List X → List Lane → List Lane
with_left b i l lanes = with_lane i (b.put l (lane_of i lanes)) lanes

-- Appends an item. After the end of the output or a read failure it does nothing.
abbrev pub with_item : ℕ → Item → Bool → Lane → Lane
with_item m i ends lane = if lane.over then lane else record lane { items = lane.items ++ came (m, i) ∷ []; over = ends }

-- What an event of a child adds.
abbrev pub lane_with : ℕ → What → Lane → Lane
lane_with m (what.Out piece) lane = with_item m (item.Out piece) false lane
lane_with m what.Eof lane = with_item m item.Eof true lane
lane_with m (what.ReadFail cause) lane = with_item m (item.ReadFail cause) true lane
lane_with m (what.Answer a) lane = record lane { answers = lane.answers ++ (m, a) ∷ [] }

abbrev pub grown : (Lane → Lane) → ℕ → List Lane → List Lane
grown g i lanes = with_lane i (g (lane_of i lanes)) lanes

-- The index of the lane of child c, numbered from 1. Number 0 has no lane.
abbrev pub place : ℕ → ℕ
place c = if c == 0 then 16 else c - 1

-- The number of items from child c that were not taken yet. Echoes don't count. It is 0 for a child without a lane.
abbrev pub untaken_of : ℕ → List Lane → ℕ
untaken_of c lanes = how_many_came (lane_of (place c) lanes).items

-- The lanes after an event that came at a moment.
abbrev pub arrived : Event → ℕ → List Lane → List Lane
arrived (event.Child c m w) h lanes = grown (lane_with h w) (place c) lanes
arrived (event.Tick m) h lanes = lanes

-- One more event. If its moment is before the greatest one so far, it is raised to that.
abbrev pub offered : Event → Dialogue → Dialogue
offered e st = record st {
  horizon = max st.horizon (moment_of e);
  lanes = arrived e (max st.horizon (moment_of e)) st.lanes;
}

-- A tick needs no memory, so it never ends the life of a dialogue.
abbrev pub OutlivesTicks : Event → Dialogue → Dialogue → Type 0
OutlivesTicks (event.Tick m) old new = new.lives ≡ old.lives
OutlivesTicks (event.Child c m w) old new = Unit {0}

-- Several events, one after another.
abbrev pub extended : List Event → Dialogue → Dialogue
extended [] st = st
extended (e ∷ es) st = extended es (offered e st)

-- The lanes of children 1 to 16, from which nothing came.
unfoldable pub no_lanes : List Lane
no_lanes = replicate 16 no_lane
