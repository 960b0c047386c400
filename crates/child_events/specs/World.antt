-- What a script can know of its children: their items and the answers to requests, each with its moment, and the
-- greatest moment.
use Rattle.std.specs.Prelude.{◌≡◌, ℕ, ◌-◌, max, List, [], ◌∷◌, ◌++◌, replicate, Bool, true, false, ◌==◌, if◌then◌else◌, Option, Some, None, slice_index_or, slice_set}
use Rattle.child_events.specs.declared.event.Answer.{Answer}
use Rattle.child_events.specs.declared.event.What.{What}
use Rattle.child_events.specs.declared.event.What.TheVariants as what
use Rattle.child_events.specs.declared.event.Item.{Item}
use Rattle.child_events.specs.declared.event.Item.TheVariants as item
use Rattle.child_events.specs.declared.event.Event.{Event}
use Rattle.child_events.specs.declared.event.Event.TheVariants as event
use Rattle.child_events.specs.declared.event.HallEvent.{HallEvent}
use Rattle.child_events.specs.declared.event.HallEvent.TheVariants as hall

-- What is known of one child: its items and the answers to its requests, each with its moment. `over` means that the
-- items end with the end of output or a read failure; later items are dropped.
pub record Lane : Type 0 where
  pub items : List (ℕ × Item)
  pub answers : List (ℕ × Answer)
  pub over : Bool

-- What is known of all children of a script, child 1 first. The horizon is the greatest moment so far, in milliseconds.
pub record World : Type 0 where
  pub lanes : List Lane
  pub horizon : ℕ

-- The event as a script sees it: events of its own children, and all ticks.
abbrev pub own_of : ℕ → HallEvent → Option Event
own_of script (hall.Child s c m w) = if s == script then Some (event.Child c m w) else None
own_of script (hall.Tick m) = Some (event.Tick m)

abbrev pub after_own : Option Event → List Event → List Event
after_own None es = es
after_own (Some e) es = e ∷ es

-- The events that a script sees, in order.
abbrev pub own : ℕ → List HallEvent → List Event
own script [] = []
own script (e ∷ es) = after_own (own_of script e) (own script es)

-- A child with no known events.
abbrev pub blank : Lane
blank = record { items = []; answers = []; over = false }

-- Appends an item. After the end of output or a read failure, items are dropped.
abbrev pub with_item : ℕ → Item → Bool → Lane → Lane
with_item m i ends lane = if lane.over then lane else record lane { items = lane.items ++ (m, i) ∷ []; over = ends }

-- What is known of a child after one more event of it.
abbrev pub lane_with : ℕ → What → Lane → Lane
lane_with m (what.Out piece) lane = with_item m (item.Out piece) false lane
lane_with m what.Eof lane = with_item m item.Eof true lane
lane_with m (what.ReadFail cause) lane = with_item m (item.ReadFail cause) true lane
lane_with m (what.Answer a) lane = record lane { answers = lane.answers ++ (m, a) ∷ [] }

-- The lane of child c, counted from 1. A number without a lane has the blank lane.
abbrev pub lane_at : ℕ → List Lane → Lane
lane_at c lanes = if c == 0 then blank else slice_index_or lanes (c - 1) blank

abbrev pub lanes_with : ℕ → ℕ → What → List Lane → List Lane
lanes_with c m w lanes = if c == 0 then lanes else slice_set lanes (c - 1) (lane_with m w (lane_at c lanes))

abbrev pub lane_of : ℕ → World → Lane
lane_of c w = lane_at c w.lanes

-- The world after one more event. The event's moment and the horizon are both raised to the greater of the two.
abbrev pub grown : World → Event → World
grown w (event.Child c m x) = record { lanes = lanes_with c (max w.horizon m) x w.lanes; horizon = max w.horizon m }
grown w (event.Tick m) = record { lanes = w.lanes; horizon = max w.horizon m }

abbrev pub grown_all : World → List Event → World
grown_all w [] = w
grown_all w (e ∷ es) = grown_all (grown w e) es

-- The blank lanes of children 1 to 16.
unfoldable pub blank_lanes : List Lane
blank_lanes = replicate 16 blank

abbrev pub fresh : World
fresh = record { lanes = blank_lanes; horizon = 0 }

-- What a world contains, in terms of the events alone.

abbrev pub moment_of : Event → ℕ
moment_of (event.Child c m w) = m
moment_of (event.Tick m) = m

abbrev pub raised_event : ℕ → Event → Event
raised_event least (event.Child c m w) = event.Child c (max least m) w
raised_event least (event.Tick m) = event.Tick (max least m)

-- The events, each moment raised to the greatest one before it.
abbrev pub raised_from : ℕ → List Event → List Event
raised_from least [] = []
raised_from least (e ∷ es) = raised_event least e ∷ raised_from (max least (moment_of e)) es

abbrev pub raised : List Event → List Event
raised es = raised_from 0 es

-- The greatest moment, or `least` if none is greater.
abbrev pub horizon_from : ℕ → List Event → ℕ
horizon_from least [] = least
horizon_from least (e ∷ es) = horizon_from (max least (moment_of e)) es

abbrev pub horizon_of : List Event → ℕ
horizon_of es = horizon_from 0 es

-- The items of a child with their moments, up to the end of its output or a read failure.
abbrev pub items_of : ℕ → List Event → List (ℕ × Item)
items_of child [] = []
items_of child (event.Tick m ∷ es) = items_of child es
items_of child (event.Child c m (what.Answer a) ∷ es) = items_of child es
items_of child (event.Child c m (what.Out piece) ∷ es) = if c == child then (m, item.Out piece) ∷ items_of child es else items_of child es
items_of child (event.Child c m what.Eof ∷ es) = if c == child then (m, item.Eof) ∷ [] else items_of child es
items_of child (event.Child c m (what.ReadFail cause) ∷ es) = if c == child then (m, item.ReadFail cause) ∷ [] else items_of child es

-- The answers to a child's requests, with their moments.
abbrev pub answers_of : ℕ → List Event → List (ℕ × Answer)
answers_of child [] = []
answers_of child (event.Tick m ∷ es) = answers_of child es
answers_of child (event.Child c m (what.Answer a) ∷ es) = if c == child then (m, a) ∷ answers_of child es else answers_of child es
answers_of child (event.Child c m (what.Out piece) ∷ es) = answers_of child es
answers_of child (event.Child c m what.Eof ∷ es) = answers_of child es
answers_of child (event.Child c m (what.ReadFail cause) ∷ es) = answers_of child es

-- The world knows of the child exactly what the events say of it.
pub record Knows (w : World) (child : ℕ) (es : List Event) : Type 0 where
  pub items : (lane_of child w).items ≡ items_of child (raised es)
  pub answers : (lane_of child w).answers ≡ answers_of child (raised es)
