-- A wait for patterns over what is left of several children's items, as in expect(1).
use Rattle.std.specs.Prelude.{◌≡◌, ℕ, zero, suc, ◌+◌, ◌*◌, ◌<◌, ◌==◌, nat_le, nat_lt, List, [], ◌∷◌, map, length, Bool, true, ◌&&◌, if◌then◌else◌, slice_index_or, Option, Some, None, ℤ, pos, negsuc}
use Rattle.child_events.specs.declared.event.Item.{Item}
use Rattle.child_events.specs.declared.event.Item.TheVariants as item
use Rattle.child_events.specs.Queue.{Queued}
use Rattle.child_events.specs.Next.{next_of}
use Rattle.exp_match.specs.declared.chosen.Chosen.{Chosen}
use Rattle.exp_match.specs.declared.chosen.Chosen.TheVariants as chosen
use Rattle.exp_match.specs.Decide.{decide}
use Rattle.expect_core.specs.declared.lanes.Lane.{Lane}
use Rattle.expect_core.specs.declared.plan.Span.{Span}
use Rattle.expect_core.specs.declared.plan.Span.TheVariants.{Never, Seconds}
use Rattle.expect_core.specs.declared.plan.Plan.{Plan}
use Rattle.expect_core.specs.declared.spread.Spread.{Spread}
use Rattle.expect_core.specs.declared.phase.Heard.{Heard}
use Rattle.expect_core.specs.declared.phase.Heard.TheVariants.{Match, Full, TimedOut, OverLimit, NotYet, Ended, Failed}
use Rattle.expect_core.specs.declared.own.Own.{Own}
use Rattle.expect_core.specs.Among.{IsAmong}
use Rattle.expect_core.specs.Lanes.{lane_of, with_items}
use Rattle.expect_core.specs.Owned.{child_of, bytes_of, received, at_moment, trimmed}

-- A timeout in seconds. It never comes if the number is negative or above 9,000,000,000,000.
abbrev pub span_of : ℤ → Span
span_of (pos n) = if nat_lt 9000000000000 n then Never else Seconds n
span_of (negsuc n) = Never

-- The last moment in time for a wait that begins at a moment, in milliseconds.
abbrev pub deadline_from : ℕ → Span → Option ℕ
deadline_from clock Never = None
deadline_from clock (Seconds n) = Some (clock + n * 1000)

-- No later than a moment. `None` is later than every moment.
abbrev pub at_most : ℕ → Option ℕ → Bool
at_most m None = true
at_most m (Some d) = nat_le m d

-- The result if no item is in time, given the greatest moment, the deadline and the script's last moment.
abbrev pub lapse : Option ℕ → ℕ → Option ℕ → Heard
lapse limit horizon None = if at_most horizon limit then NotYet else OverLimit
lapse limit horizon (Some d) =
    if nat_le horizon d then (if at_most horizon limit then NotYet else OverLimit)
    else (if at_most d limit then TimedOut d else OverLimit)

abbrev pub in_time : Option ℕ → Option ℕ → ℕ → Bool
in_time limit deadline m = at_most m deadline && at_most m limit

-- The place of a child that takes part, and its groups.
abbrev pub Watch : Type 0
Watch = ℕ × List ℕ

-- The children that take part, in order of places.
abbrev pub watched : Plan → List Watch
watched p = p.sides

-- The place of one of them. There is no child at place 16.
abbrev pub place_in : List Watch → ℕ → ℕ
place_in ws n = (slice_index_or ws n (16, [])).0

-- The places of the children that take part.
abbrev pub places_of : List Watch → List ℕ
places_of ws = map (λ w. w.0) ws

-- The child at a place takes part.
abbrev pub IsWatched : ℕ → List Watch → Type 0
IsWatched i ws = IsAmong i (places_of ws)

-- The children that a wait is about: those that take part, and the one that more is sent to after it.

abbrev pub sent_too : Option (ℕ × Spread) → List ℕ → List ℕ
sent_too None is = is
sent_too (Some s) is = s.0 ∷ is

abbrev pub about : Plan → List ℕ
about p = sent_too p.pending (places_of p.sides)

-- The groups of the child at a place.
abbrev pub groups_at : ℕ → List Watch → List ℕ
groups_at i [] = []
groups_at i (w ∷ ws) = if w.0 == i then w.1 else groups_at i ws

-- The result of a wait, the remaining items, and the state of the commands.
abbrev pub Listened : Type 0
Listened = Heard × List Lane × Own

-- The choice for the match buffer of a child.
abbrev pub chosen_of : Plan → Watch → Own → Chosen
chosen_of p w o = decide p.list.entries w.1 (bytes_of w.0 o) (child_of w.0 o).kept.size

-- If nothing is chosen, the buffer is trimmed to its size, and the wait goes on.
abbrev pub decided : ℕ → Chosen → List Lane → Own → (Own → Listened) → Listened
decided i (chosen.Pattern n spans) lanes o k = (Match i n spans, lanes, o)
decided i chosen.Full lanes o k = (Full i, lanes, o)
decided i chosen.None lanes o k = k (trimmed i o)

-- The match buffers are tested one after the other.
abbrev pub tested : Plan → List Watch → List Lane → Own → (Own → Listened) → Listened
tested p [] lanes o k = k o
tested p (w ∷ ws) lanes o k = decided w.0 (chosen_of p w o) lanes o (λ o. tested p ws lanes o k)

abbrev pub heard : Plan → ℕ → Item → List Lane → Own → (Own → Listened) → Listened
heard p i (item.Out piece) lanes o k = tested p (watched p) lanes (received i piece o) k
heard p i item.Eof lanes o k = (Ended i, lanes, o)
heard p i (item.ReadFail c) lanes o k = (Failed i c, lanes, o)

-- The moment of the first item.
abbrev pub head_of : List Queued → Option ℕ
head_of [] = None
head_of (q ∷ qs) = Some q.moment

abbrev pub heads : List Watch → List Lane → List (Option ℕ)
heads [] lanes = []
heads (w ∷ ws) lanes = head_of (lane_of w.0 lanes).items ∷ heads ws lanes

-- The first item of the child at a place is taken, if it is in time.
abbrev pub taken : Option ℕ → ℕ → Plan → ℕ → List Queued → List Lane → Own → (List Lane → Own → Listened) → Listened
taken limit horizon p i [] lanes o k = (lapse limit horizon p.deadline, lanes, o)
taken limit horizon p i (q ∷ qs) lanes o k =
    if in_time limit p.deadline q.moment
    then heard p i q.item (with_items i qs lanes) (at_moment q.moment o) (k (with_items i qs lanes))
    else (lapse limit horizon p.deadline, lanes, o)

abbrev pub on_next : Option ℕ → ℕ → Plan → Option ℕ → List Lane → Own → (List Lane → Own → Listened) → Listened
on_next limit horizon p None lanes o k = (lapse limit horizon p.deadline, lanes, o)
on_next limit horizon p (Some n) lanes o k =
    let i = place_in (watched p) n in
    taken limit horizon p i (lane_of i lanes).items lanes o k

-- At most this many items are taken.
abbrev pub listen_for : ℕ → Option ℕ → ℕ → Plan → List Lane → Own → Listened
listen_for zero limit horizon p lanes o = (lapse limit horizon p.deadline, lanes, o)
listen_for (suc n) limit horizon p lanes o = on_next limit horizon p (next_of (heads (watched p) lanes) horizon) lanes o (listen_for n limit horizon p)

abbrev pub item_count : List Lane → ℕ
item_count [] = 0
item_count (lane ∷ lanes) = length lane.items + item_count lanes

-- Waits for the next item. The match buffers have been tested.
abbrev pub listen : Option ℕ → ℕ → Plan → List Lane → Own → Listened
listen limit horizon p lanes o = listen_for (suc (item_count lanes)) limit horizon p lanes o

-- The match buffers are tested first.
abbrev pub look : Option ℕ → ℕ → Plan → List Lane → Own → Listened
look limit horizon p lanes o = tested p (watched p) lanes o (listen limit horizon p lanes)

-- One turn more than there are items is enough.
abbrev pub TakesEach : Type 0
TakesEach = (n : ℕ) (limit : Option ℕ) (h : ℕ) (p : Plan) (lanes : List Lane) (o : Own) → item_count lanes < n → listen_for n limit h p lanes o ≡ listen limit h p lanes o

-- The result is about a child that takes part.
abbrev pub IsAbout : List Watch → Heard → Type 0
IsAbout ws (Match i n spans) = IsWatched i ws
IsAbout ws (Full i) = IsWatched i ws
IsAbout ws (Ended i) = IsWatched i ws
IsAbout ws (Failed i c) = IsWatched i ws
IsAbout ws other = Unit {0}
