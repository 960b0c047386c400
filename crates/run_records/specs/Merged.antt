-- Records that become one as they come.
use Rattle.std.specs.Prelude.{◌≡◌, ℕ, ◌+◌, ◌-◌, ◌≤◌, ◌<◌, List, [], ◌∷◌, ◌++◌, map, take, length, IsTrue, false, Option, None, Some}
use Rattle.std.specs.List.{AllByRecursion}
use Rattle.child_events.specs.declared.event.HallEvent.{HallEvent}
use Rattle.child_events.specs.declared.event.HallEvent.TheVariants as hall
use Rattle.child_hands.specs.declared.log_item.LogItem.{LogItem}
use Rattle.child_hands.specs.Record.{moment_in, moment_at, events_in, ItemsAscendFrom}
use Rattle.feed_rings.specs.Ends.{put_items, taken_items, IsPair, SameOut}
use Rattle.feed_rings.specs.declared.feed.FeedIn.{FeedIn}
use Rattle.run_records.specs.declared.reel.Reel.{Reel}
use Rattle.run_records.specs.declared.merger.Merger.{Merger}
use Rattle.run_records.specs.Joined.{script_of, numbered, IsJoined}

-- A recorder was handed these events, in several calls.
pub data Handed {R : Type 0} (notes : R → List HallEvent → R → Type 0) : R → List HallEvent → R → Type 0 where
  nothing : (r : R) → Handed notes r [] r
  more : (a b c : R) (es fs : List HallEvent) → Handed notes a es b → notes b fs c → Handed notes a (es ++ fs) c

-- The script's number among all fits into a record.
abbrev pub IsNumbered : ℕ → ℕ → HallEvent → Type 0
IsNumbered n w (hall.Child s c m x) = script_of n w s ≤ 255
IsNumbered n w (hall.Tick m) = Unit {0}

abbrev pub AllNumbered : ℕ → ℕ → List HallEvent → Type 0
AllNumbered n w es = AllByRecursion (IsNumbered n w) es

-- All events are before a moment.
abbrev pub AllBelow : ℕ → List HallEvent → Type 0
AllBelow bound es = AllByRecursion (λ e. moment_in e < bound) es

-- No event is before a moment.
abbrev pub AllFrom : ℕ → List HallEvent → Type 0
AllFrom bound es = AllByRecursion (λ e. bound ≤ moment_in e) es

-- The first event isn't before a moment.
abbrev pub BeginsFrom : ℕ → List HallEvent → Type 0
BeginsFrom bound [] = Unit {0}
BeginsFrom bound (e ∷ es) = bound ≤ moment_in e

-- The moment of the last item, or `since` if there is none.
abbrev pub last_moment : ℕ → List LogItem → ℕ
last_moment since [] = since
last_moment since (x ∷ xs) = last_moment (moment_at x) xs

-- More items were taken, and their events were appended to those held.
pub record TakesOn (old new : Reel) : Type 0 where
  pub items : List LogItem
  pub taken : taken_items new.out ≡ taken_items old.out ++ items
  pub held : new.held.items ≡ old.held.items ++ events_in items
  pub since : new.since ≡ last_moment old.since items

-- The first held event was taken, if it is before a moment.
abbrev pub TakesFirst : ℕ → Reel → Reel → Option HallEvent → Type 0
TakesFirst bound old new None = (new ≡ old) × BeginsFrom bound old.held.items
TakesFirst bound old new (Some e) = (moment_in e < bound) × (old.held.items ≡ e ∷ new.held.items) × (new.out ≡ old.out) × (new.since ≡ old.since)

-- The lists have the same length. Their elements are related pairwise, with an index that begins at `w`.
abbrev pub AllPaired : {X Y : Type 0} → (ℕ → X → Y → Type 0) → ℕ → List X → List Y → Type 0
AllPaired Are w [] [] = Unit {0}
AllPaired Are w [] (y ∷ ys) = ⊥
AllPaired Are w (x ∷ xs) [] = ⊥
AllPaired Are w (x ∷ xs) (y ∷ ys) = Are w x y × AllPaired Are (w + 1) xs ys

-- The moments of items don't decrease, and none is above 9,000,000,000,000,000 ms. The scripts' numbers among all fit
-- into a record.
pub record IsSound (n w : ℕ) (items : List LogItem) : Type 0 where
  pub ascends : ItemsAscendFrom 0 items
  pub until : AllByRecursion (λ x. moment_at x ≤ 9000000000000000) items
  pub numbers : AllNumbered n w (events_in items)

abbrev pub AllSoundFrom : {X : Type 0} → (X → List LogItem) → ℕ → ℕ → List X → Type 0
AllSoundFrom of n w [] = Unit {0}
AllSoundFrom of n w (x ∷ xs) = IsSound n w (of x) × AllSoundFrom of n (w + 1) xs

abbrev pub taken_of : Reel → List LogItem
taken_of reel = taken_items reel.out

-- A worker's record is cut at a moment. The events that were handed on are before it. Those held and those to come are
-- not. The first two together are the events that were taken.
pub record IsCut (bound : ℕ) (reel : Reel) (front : List HallEvent) : Type 0 where
  pub taken : front ++ reel.held.items ≡ events_in (taken_of reel)
  pub before : AllBelow bound front
  pub behind : AllFrom bound reel.held.items
  pub coming : bound ≤ reel.since

-- The records of all workers are cut at a moment, and what was handed on is one record of them.
pub record AreCut (bound : ℕ) (reels : List Reel) (es : List HallEvent) : Type 0 where
  pub fronts : List (List HallEvent)
  pub each : AllPaired (λ w reel front. IsCut bound reel front) 0 reels fronts
  pub joined : IsJoined fronts es

-- Nothing was taken.
abbrev pub IsFresh : Reel → Type 0
IsFresh reel = (taken_of reel ≡ []) × (reel.held.items ≡ []) × (reel.since ≡ 0)

abbrev pub AreFresh : List Reel → Type 0
AreFresh reels = AllByRecursion IsFresh reels

-- `since` is the moment of the last item of each ring.
abbrev pub AreKnown : List Reel → Type 0
AreKnown reels = AllByRecursion (λ reel. reel.since ≡ last_moment 0 (taken_of reel)) reels

-- The rings stay the same rings.
abbrev pub SameRings : List Reel → List Reel → Type 0
SameRings olds news = AllPaired (λ w old new. SameOut old.out new.out) 0 olds news

-- More items were taken from each ring.
abbrev pub AllTakeOn : List Reel → List Reel → Type 0
AllTakeOn olds news = AllPaired (λ w old new. TakesOn old new) 0 olds news

-- The putting endpoints of the rings.
abbrev pub ArePairs : List (FeedIn LogItem) → List Reel → Type 0
ArePairs logs reels = AllPaired (λ w log reel. IsPair log reel.out) 0 logs reels

-- All that was put into the rings was taken.
abbrev pub AllTaken : List (FeedIn LogItem) → List Reel → Type 0
AllTaken logs reels = AllPaired (λ w log reel. taken_of reel ≡ put_items log) 0 logs reels

-- A moment isn't after the last one of any ring.
abbrev pub AllBehind : ℕ → List Reel → Type 0
AllBehind bound reels = AllByRecursion (λ reel. bound ≤ reel.since) reels

-- The events of a ring that are no longer held.
abbrev pub gone : Reel → Reel → List HallEvent
gone old new = take (length old.held.items - length new.held.items) old.held.items

abbrev pub all_gone : List Reel → List Reel → List (List HallEvent)
all_gone [] news = []
all_gone (old ∷ olds) [] = []
all_gone (old ∷ olds) (new ∷ news) = gone old new ∷ all_gone olds news

-- The held events at the front that are before a moment are no longer held.
pub record IsMove (bound : ℕ) (old new : Reel) : Type 0 where
  pub held : old.held.items ≡ gone old new ++ new.held.items
  pub earlier : AllBelow bound (gone old new)
  pub rest : BeginsFrom bound new.held.items
  pub since : new.since ≡ old.since
  pub out : new.out ≡ old.out

-- They were appended to `all`, with the numbers that their scripts have among all.
abbrev pub Moves : ℕ → ℕ → ℕ → Reel → List HallEvent → Reel → List HallEvent → Type 0
Moves bound n w old all new all' = IsMove bound old new × (AllNumbered n w (gone old new) → all' ≡ all ++ map (numbered n w) (gone old new))

abbrev pub AllNumberedFrom : ℕ → ℕ → List (List HallEvent) → Type 0
AllNumberedFrom n w [] = Unit {0}
AllNumberedFrom n w (es ∷ rest) = AllNumbered n w es × AllNumberedFrom n (w + 1) rest

-- The events that are no longer held became one record.
pub record AllMove (bound : ℕ) (olds news : List Reel) (es : List HallEvent) : Type 0 where
  pub moves : AllPaired (λ w old new. IsMove bound old new) 0 olds news
  pub joined : AllNumberedFrom (length olds) 0 (all_gone olds news) → IsJoined (all_gone olds news) es

module _ {R : Type 0} (notes : R → List HallEvent → R → Type 0) where
  -- A recorder was handed some events since it was `first`.
  abbrev pub WasHanded : R → R → Type 0
  WasHanded first last = (es : List HallEvent) × Handed notes first es last

  -- Since it was `first`, the recorder was handed one record of the fronts of the workers' records, if these are sound.
  pub record HasMerged (first : R) (m : Merger R) : Type 0 where
    pub es : List HallEvent
    pub handed : Handed notes first es m.recorder
    pub known : AreKnown m.reels.items
    pub cut : AllSoundFrom taken_of (length m.reels.items) 0 m.reels.items → (bound : ℕ) × AreCut bound m.reels.items es

  -- `HasMerged` holds, if the record is kept and memory was not refused.
  abbrev pub IsMerging : R → Merger R → Type 0
  IsMerging first m = IsTrue m.keeps → m.is_lost ≡ false → HasMerged first m

  -- The held events before a moment were handed on.
  pub record HandsOn (bound : ℕ) (old new : Merger R) : Type 0 where
    pub es : List HallEvent
    pub noted : notes old.recorder es new.recorder
    pub moves : AllMove bound old.reels.items new.reels.items es

  -- A recorder was handed one record of the records of all workers, if these are sound.
  pub record HasOne (first : R) (logs : List (FeedIn LogItem)) (last : R) : Type 0 where
    pub es : List HallEvent
    pub handed : Handed notes first es last
    pub joined : AllSoundFrom put_items (length logs) 0 logs → IsJoined (map (λ log. events_in (put_items log)) logs) es
