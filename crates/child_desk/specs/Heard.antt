-- What is taken from the rings of children, and recorded.
use Rattle.std.specs.Prelude.{◌≡◌, ◌≢◌, ◌≤◌, ◌<◌, ℕ, ◌+◌, Bool, true, false, ◌&&◌, ◌==◌, List, [], ◌∷◌, ◌++◌, length, slice_get, Some, if◌then◌else◌}
use Rattle.std.specs.List.{flat_map}
use Rattle.std.specs.declared.io.traits.Read.{Ghosts as ReadGhosts}
use Rattle.child_events.specs.declared.event.What.{What}
use Rattle.child_events.specs.declared.event.What.TheVariants as what
use Rattle.child_events.specs.declared.event.Event.{Event}
use Rattle.child_events.specs.declared.event.Event.TheVariants as event
use Rattle.child_events.specs.declared.event.HallEvent.{HallEvent}
use Rattle.child_events.specs.World.{own}
use Rattle.child_hands.specs.declared.items.RingItem.{RingItem}
use Rattle.child_hands.specs.declared.items.RingItem.TheVariants.{Out, End, ReadFail, Answer, Ask, Stop}
use Rattle.child_hands.specs.declared.keeper.Keeper.{Ghosts}
use Rattle.feed_rings.specs.Ends.{taken_items, seen_items, all_put, SameOut, IsFinishedOf}
use Rattle.feed_rings.specs.declared.feed.FeedOut.{FeedOut}
use Rattle.feed_rings.specs.declared.feed.Finished.{Finished}
use Rattle.dialogue_sched.specs.Refusal.{piece_len}
use Rattle.child_desk.specs.Ends.{IsOutput}
use Rattle.child_desk.specs.declared.ends.Ends.{Ends}
use Rattle.child_desk.specs.declared.readers.Readers.{Readers}
use Rattle.child_desk.specs.declared.readers.Taken.{Taken}
use Rattle.child_desk.specs.declared.readers.Taken.TheVariants.{Nothing, Passed, Heard}

-- Whether this comes from a child's reader: output, its end or a read failure, but no answer.
abbrev pub is_output : What → Bool
is_output (what.Out piece) = true
is_output what.Eof = true
is_output (what.ReadFail cause) = true
is_output (what.Answer a) = false

-- What an event says that came from a child's reader.
abbrev pub said_in : ℕ → Event → List What
said_in child (event.Child c m w) = if (c == child) && is_output w then w ∷ [] else []
said_in child (event.Tick m) = []

-- What events say that came from a child's reader, in order.
abbrev pub said_by : ℕ → List Event → List What
said_by child es = flat_map (said_in child) es

-- What a record says that came from the reader of a script's child.
abbrev pub recorded : ℕ → ℕ → List HallEvent → List What
recorded script child es = said_by child (own script es)

-- Nothing more from readers was recorded.
abbrev pub Unheard : List HallEvent → List HallEvent → Type 0
Unheard es es' = (s c : ℕ) → recorded s c es' ≡ recorded s c es

-- This was recorded from the reader of a script's child, and nothing from other readers.
pub record Adds (script child : ℕ) (said : List What) (es es' : List HallEvent) : Type 0 where
  pub here : recorded script child es' ≡ recorded script child es ++ said
  pub others : (s c : ℕ) → ((s ≡ script) × (c ≡ child) → ⊥) → recorded s c es' ≡ recorded s c es

-- What was taken says this. There is a copy, and no piece is too long for an event.
abbrev pub Says : List What → Taken → Type 0
Says said Nothing = said ≡ []
Says said Passed = said ≡ []
Says said (Heard h) = (said ≡ h.what ∷ []) × (h.copy ≡ h.what) × IsOutput h.what × (piece_len h.what ≤ 4096)

module _ {K O : Type 0} {g : Ghosts K O} {r : ReadGhosts O} where
  -- What an item says of a script's child: a piece of output, its end or a read failure. Other items say nothing.
  abbrev pub heard_of : ℕ → ℕ → RingItem K O g r → List What
  heard_of script child (Out s c piece) = if (s == script) && (c == child) then what.Out piece ∷ [] else []
  heard_of script child (End s c) = if (s == script) && (c == child) then what.Eof ∷ [] else []
  heard_of script child (ReadFail s c cause) = if (s == script) && (c == child) then what.ReadFail cause ∷ [] else []
  heard_of script child (Answer s a) = []
  heard_of script child (Ask request) = []
  heard_of script child Stop = []

  abbrev pub heard : ℕ → ℕ → List (RingItem K O g r) → List What
  heard script child items = flat_map (heard_of script child) items

  -- This is of a child's ring, if there is one.
  abbrev pub FinishedAt : ℕ → Finished (RingItem K O g r) → Readers K O g r → Type 0
  FinishedAt index finished rs = (out : FeedOut (RingItem K O g r)) → slice_get rs.outs.items index ≡ Some out → IsFinishedOf finished out

  -- That ring has an item that was seen.
  abbrev pub SeenAt : ℕ → Readers K O g r → Type 0
  SeenAt index rs = (out : FeedOut (RingItem K O g r)) → slice_get rs.outs.items index ≡ Some out → 0 < length (seen_items out)

  -- These items were taken from that ring, in all.
  abbrev pub TakenAt : ℕ → List (RingItem K O g r) → Readers K O g r → Type 0
  TakenAt index items rs = (out : FeedOut (RingItem K O g r)) → slice_get rs.outs.items index ≡ Some out → taken_items out ≡ items

  -- `n` items are left of all that was put into that ring, and they were seen.
  abbrev pub IsLeftOf : ℕ → Finished (RingItem K O g r) → Readers K O g r → ℕ → Type 0
  IsLeftOf index finished rs n = (out : FeedOut (RingItem K O g r)) → slice_get rs.outs.items index ≡ Some out → (taken_items out ++ seen_items out ≡ all_put finished) × (n ≡ length (seen_items out))

  -- One item fewer is left in that ring.
  abbrev pub LeavesOneLess : ℕ → Readers K O g r → Readers K O g r → Type 0
  LeavesOneLess index rs rs' = (finished : Finished (RingItem K O g r)) (n : ℕ) → IsLeftOf index finished rs (n + 1) → IsLeftOf index finished rs' n

  -- These items were taken from that ring, and none from others.
  pub record TakesAt (index : ℕ) (rs rs' : Readers K O g r) (more : List (RingItem K O g r)) : Type 0 where
    pub here : (out : FeedOut (RingItem K O g r)) → slice_get rs.outs.items index ≡ Some out →
        (out' : FeedOut (RingItem K O g r)) × (slice_get rs'.outs.items index ≡ Some out') × SameOut out out' × (taken_items out' ≡ taken_items out ++ more)
    pub others : (i : ℕ) → i ≢ index → slice_get rs'.outs.items i ≡ slice_get rs.outs.items i
    pub count : length rs'.outs.items ≡ length rs.outs.items
    pub number : rs'.script ≡ rs.script

  -- What was taken from that ring says this of the child.
  abbrev pub IsTaken : ℕ → Readers K O g r → Readers K O g r → Taken → Type 0
  IsTaken index rs rs' taken = (more : List (RingItem K O g r)) × TakesAt index rs rs' more × Says (heard rs.script (index + 1) more) taken

  -- What was taken from that ring was recorded, under the script's number in the hall. Nothing else was.
  pub record HearsAt (script index : ℕ) (rs : Readers K O g r) (es : List HallEvent) (rs' : Readers K O g r) (es' : List HallEvent) : Type 0 where
    pub more : List (RingItem K O g r)
    pub takes : TakesAt index rs rs' more
    pub adds : Adds script (index + 1) (heard rs.script (index + 1) more) es es'

  -- What was taken from a child's ring was recorded. `number` is the script's number in the items, `script` that in the
  -- record.
  pub record HearsMore (number script child : ℕ) (out : FeedOut (RingItem K O g r)) (es : List HallEvent) (out' : FeedOut (RingItem K O g r)) (es' : List HallEvent) : Type 0 where
    pub ring : SameOut out out'
    pub more : List (RingItem K O g r)
    pub taken : taken_items out' ≡ taken_items out ++ more
    pub entered : recorded script child es' ≡ recorded script child es ++ heard number child more

  -- What was taken from each child's ring of a script was recorded.
  pub record HearsOwn (script : ℕ) (rs : Readers K O g r) (es : List HallEvent) (rs' : Readers K O g r) (es' : List HallEvent) : Type 0 where
    pub each : (i : ℕ) (out : FeedOut (RingItem K O g r)) → slice_get rs.outs.items i ≡ Some out →
        (out' : FeedOut (RingItem K O g r)) × (slice_get rs'.outs.items i ≡ Some out') × HearsMore rs.script script (i + 1) out es out' es'
    pub count : length rs'.outs.items ≡ length rs.outs.items
    pub number : rs'.script ≡ rs.script

  -- Nothing was recorded from children of other scripts.
  pub record Hears (script : ℕ) (rs : Readers K O g r) (es : List HallEvent) (rs' : Readers K O g r) (es' : List HallEvent) : Type 0 where
    pub own : HearsOwn script rs es rs' es'
    pub others : (s c : ℕ) → s ≢ script → recorded s c es' ≡ recorded s c es

  -- What was taken from each child's ring of each script was recorded.
  pub record HearsAll (ends : List (Ends K O g r)) (es : List HallEvent) (ends' : List (Ends K O g r)) (es' : List HallEvent) : Type 0 where
    pub each : (at : ℕ) (e : Ends K O g r) → slice_get ends at ≡ Some e → (e' : Ends K O g r) × (slice_get ends' at ≡ Some e') × HearsOwn (at + 1) e.readers es e'.readers es'
    pub count : length ends' ≡ length ends

  -- This is of the ring of the child at `index` of the script at `at`.
  abbrev pub FinishedIn : ℕ → ℕ → Finished (RingItem K O g r) → List (Ends K O g r) → Type 0
  FinishedIn at index finished ends = (e : Ends K O g r) → slice_get ends at ≡ Some e → FinishedAt index finished e.readers

  -- These items were taken from that ring, in all.
  abbrev pub TakenIn : ℕ → ℕ → List (RingItem K O g r) → List (Ends K O g r) → Type 0
  TakenIn at index items ends = (e : Ends K O g r) → slice_get ends at ≡ Some e → TakenAt index items e.readers

  -- What was taken from that ring was recorded. Nothing was taken from others, and nothing else from readers was
  -- recorded.
  pub record Settles (at index : ℕ) (ends : List (Ends K O g r)) (es : List HallEvent) (ends' : List (Ends K O g r)) (es' : List HallEvent) : Type 0 where
    pub here : (e : Ends K O g r) → slice_get ends at ≡ Some e → (e' : Ends K O g r) × (slice_get ends' at ≡ Some e') × HearsAt (at + 1) index e.readers es e'.readers es'
    pub others : (i : ℕ) → i ≢ at → slice_get ends' i ≡ slice_get ends i
    pub silent : (s c : ℕ) → ((s ≡ at + 1) × (c ≡ index + 1) → ⊥) → recorded s c es' ≡ recorded s c es
    pub count : length ends' ≡ length ends
