-- The answers in a script's part of the record, and what its keeper told.
use Rattle.std.specs.Prelude.{◌≡◌, ℕ, ◌+◌, List, [], ◌∷◌, ◌++◌, map, Option, None, Some, Contains}
use Rattle.std.specs.List.{flat_map}
use Rattle.std.specs.declared.io.traits.Read.{Ghosts as ReadGhosts}
use Rattle.child_events.specs.declared.event.Answer.{Answer}
use Rattle.child_events.specs.declared.event.What.TheVariants as what
use Rattle.child_events.specs.declared.event.Event.{Event}
use Rattle.child_events.specs.declared.event.Event.TheVariants as event
use Rattle.expect_core.specs.declared.request.Request.{Request}
use Rattle.child_hands.specs.declared.items.Answered.{Answered}
use Rattle.child_hands.specs.declared.items.RingItem.{RingItem}
use Rattle.child_hands.specs.declared.items.RingItem.TheVariants as item
use Rattle.child_hands.specs.declared.keeper.Keeper.{Ghosts}
use Rattle.feed_rings.specs.Ends.{put_items, taken_items}
use Rattle.feed_rings.specs.declared.feed.FeedOut.{FeedOut}
use Rattle.child_desk.specs.declared.ends.Ends.{Ends}

-- The answer of an event, if it is one.
abbrev pub answer_in : Event → List Answer
answer_in (event.Tick m) = []
answer_in (event.Child c m (what.Answer a)) = a ∷ []
answer_in (event.Child c m (what.Out piece)) = []
answer_in (event.Child c m what.Eof) = []
answer_in (event.Child c m (what.ReadFail cause)) = []

abbrev pub answers_in : List Event → List Answer
answers_in es = flat_map answer_in es

-- An answer, and the child that it names.
pub record Reply : Type 0 where
  pub child : ℕ
  pub answer : Answer

-- The answer of an event with its child, if it is one.
abbrev pub reply_in : Event → List Reply
reply_in (event.Tick m) = []
reply_in (event.Child c m (what.Answer a)) = record { child = c; answer = a } ∷ []
reply_in (event.Child c m (what.Out piece)) = []
reply_in (event.Child c m what.Eof) = []
reply_in (event.Child c m (what.ReadFail cause)) = []

abbrev pub replies_in : List Event → List Reply
replies_in es = flat_map reply_in es

-- Each answer names the child of the request with its index.
abbrev pub AreOf : List Reply → List Request → Type 0
AreOf [] qs = Unit {0}
AreOf (x ∷ xs) [] = ⊥
AreOf (x ∷ xs) (q ∷ qs) = (x.child ≡ q.child) × AreOf xs qs

-- The keeper's calls after the first `n`, in order, told these answers to the requests with their indices. There are at
-- most as many answers as requests.
abbrev pub AreTold : (ℕ → ℕ → Request → Answer → Type 0) → ℕ → ℕ → List Answer → List Request → Type 0
AreTold told name n [] qs = Unit {0}
AreTold told name n (a ∷ xs) [] = ⊥
AreTold told name n (a ∷ xs) (q ∷ qs) = ∥ told name (n + 1) q a ∥₁ × AreTold told name (n + 1) xs qs

-- What a keeper told: its name, the number of the call, the request and the answer.
pub record Telling : Type 0 where
  pub name : ℕ
  pub call : ℕ
  pub request : Request
  pub answer : Answer

-- The answers to the requests with their indices are among what was told, by the keeper's calls after the first `n`, in
-- order. There are at most as many answers as requests.
abbrev pub AreAmong : List Telling → ℕ → ℕ → List Answer → List Request → Type 0
AreAmong ts name n [] qs = Unit {0}
AreAmong ts name n (a ∷ xs) [] = ⊥
AreAmong ts name n (a ∷ xs) (q ∷ qs) = Contains ts (record { name = name; call = n + 1; request = q; answer = a }) × AreAmong ts name (n + 1) xs qs

-- What is put to a script's hand: a request, the stop, or anything else.
pub data Put : Type 0 where
  Asks : (request : Request) → Put
  Stops : Put
  Else : Put

-- What is known of the rings to and from a script's hand: what its keeper told, and what was put or waits for room.
pub record Rings : Type 0 where
  pub told : List Telling
  pub asked : List Put

-- New rings.
abbrev pub no_rings : Rings
no_rings = record { told = []; asked = [] }

-- The keeper told more.
abbrev pub telling : Rings → List Telling → Rings
telling rings more = record rings { told = rings.told ++ more }

-- More was put.
abbrev pub asking : Rings → List Put → Rings
asking rings more = record rings { asked = rings.asked ++ more }

module _ {K O : Type 0} {g : Ghosts K O} {r : ReadGhosts O} where
  abbrev pub telling_of : Answered K O g r → Telling
  telling_of a = record { name = a.name; call = a.call; request = a.request; answer = a.answer }

  abbrev pub told_of : Option (Answered K O g r) → List Telling
  told_of None = []
  told_of (Some a) = telling_of a ∷ []

  -- What an item tells, if it is an answer.
  abbrev pub tells : RingItem K O g r → List Telling
  tells (item.Answer s a) = telling_of a ∷ []
  tells (item.Out s c piece) = []
  tells (item.End s c) = []
  tells (item.ReadFail s c cause) = []
  tells (item.Ask request) = []
  tells item.Stop = []

  abbrev pub all_told : List (RingItem K O g r) → List Telling
  all_told items = flat_map tells items

  -- What the items tell that were taken from a ring.
  abbrev pub heard_of_hand : FeedOut (RingItem K O g r) → List Telling
  heard_of_hand out = all_told (taken_items out)

  abbrev pub put_of : RingItem K O g r → Put
  put_of (item.Ask request) = Asks request
  put_of item.Stop = Stops
  put_of (item.Answer s a) = Else
  put_of (item.Out s c piece) = Else
  put_of (item.End s c) = Else
  put_of (item.ReadFail s c cause) = Else

  abbrev pub waiting : Option (RingItem K O g r) → List Put
  waiting None = []
  waiting (Some x) = put_of x ∷ []

  -- What was put to the hand, and then what waits for room.
  abbrev pub asked_of_hand : Ends K O g r → List Put
  asked_of_hand e = map put_of (put_items e.asks) ++ waiting e.ready

  abbrev pub rings_of : Ends K O g r → Rings
  rings_of e = record { told = heard_of_hand e.answers; asked = asked_of_hand e }
