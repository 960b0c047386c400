-- Hands that were started, and the endpoints of their rings.
use Rattle.std.specs.Prelude.{◌≡◌, ◌≢◌, ◌<◌, ◌≤◌, ℕ, ◌+◌, List, [], length, slice_get, Option, Some, IfSome, Contains}
use Rattle.std.specs.declared.io.traits.Read.{Ghosts as ReadGhosts}
use Rattle.std.specs.declared.thread.PromisedHandle.{PromisedHandle}
use Rattle.expect_core.specs.declared.request.Request.{Request}
use Rattle.child_hands.specs.Handed.{AreAnswers}
use Rattle.child_hands.specs.declared.items.RingItem.{RingItem}
use Rattle.child_hands.specs.declared.keeper.Keeper.{Ghosts}
use Rattle.feed_rings.specs.Ends.{put_items, taken_items, all_put, IsPair, IsFinishedOf}
use Rattle.feed_rings.specs.declared.feed.FeedOut.{FeedOut}
use Rattle.feed_rings.specs.declared.feed.Finished.{Finished}
use Rattle.child_hands.specs.declared.thread.Obeys.{Obeys}
use Rattle.child_hands.specs.declared.work.Fresh.{Fresh}
use Rattle.child_hands.specs.declared.work.HandEnd.{HandEnd}
use Rattle.child_hands.specs.declared.work.Work.{Work}
use Rattle.child_hands.specs.declared.work.Work.TheVariants.{Free, Ended}
use Rattle.child_desk.specs.declared.ends.Ends.{Ends}
use Rattle.child_desk.specs.Heard.{TakenIn}
use Rattle.child_desk.specs.Told.{asked_of_hand}
use Rattle.child_desk.specs.Line.{IsFrontIn}
use Rattle.child_serve.specs.declared.served.Unsettled.{Unsettled}
use Rattle.run_records.specs.Joined.{script_of}
use Rattle.child_serve.specs.Given.{IsPut}

-- The numbers of a worker's first `count` scripts are at most 64.
abbrev pub AreNumbers : ℕ → ℕ → ℕ → Type 0
AreNumbers n w count = (number : ℕ) → 1 ≤ number → number ≤ count → script_of n w number ≤ 64

module _ {K O : Type 0} {g : Ghosts K O} {r : ReadGhosts O} where
  -- No child was started.
  abbrev pub AreUnused : List (Work K O g r) → Type 0
  AreUnused works = (i : ℕ) (work : Work K O g r) → slice_get works i ≡ Some work → (fresh : Fresh K O g r) × (work ≡ Free fresh)

  -- These are the other endpoints of their rings.
  abbrev pub ArePaired : List (Work K O g r) → List (FeedOut (RingItem K O g r)) → Type 0
  ArePaired works outs = (i : ℕ) (fresh : Fresh K O g r) (out : FeedOut (RingItem K O g r)) → slice_get works i ≡ Some (Free fresh) → slice_get outs i ≡ Some out → IsPair fresh.feed out

  -- Nothing was taken.
  abbrev pub AreUntaken : List (FeedOut (RingItem K O g r)) → Type 0
  AreUntaken outs = (i : ℕ) (out : FeedOut (RingItem K O g r)) → slice_get outs i ≡ Some out → taken_items out ≡ []

  -- The new rings of this many children.
  pub record AreRings (count : ℕ) (works : List (Work K O g r)) (outs : List (FeedOut (RingItem K O g r))) : Type 0 where
    pub works_count : length works ≡ count
    pub outs_count : length outs ≡ count
    pub unused : AreUnused works
    pub paired : ArePaired works outs
    pub untaken : AreUntaken outs

  -- A hand was started with new rings and no child. `e` has the other endpoints of the rings from it and its children.
  pub record IsLinked (hand : PromisedHandle (HandEnd K O g r) (Obeys K O g r)) (e : Ends K O g r) : Type 0 where
    pub asks : taken_items hand.promise.asks.value ≡ []
    pub answers : put_items hand.promise.answers.value ≡ []
    pub answering : IsPair hand.promise.answers.value e.answers
    pub count : length hand.promise.works.value.items ≡ 16
    pub unused : AreUnused hand.promise.works.value.items
    pub paired : ArePaired hand.promise.works.value.items e.readers.outs.items

  -- `IsLinked` holds of each hand of a desk.
  abbrev pub AreLinked : List (PromisedHandle (HandEnd K O g r) (Obeys K O g r)) → List (Ends K O g r) → Type 0
  AreLinked hands ends = (at : ℕ) (hand : PromisedHandle (HandEnd K O g r) (Obeys K O g r)) → slice_get hands at ≡ Some hand → (e : Ends K O g r) × (slice_get ends at ≡ Some e) × IsLinked hand e

  -- A hand was started for a script and its keeper, and nothing came through its rings.
  pub record IsOpened (script : ℕ) (keeper : K) (e : Ends K O g r) (hand : PromisedHandle (HandEnd K O g r) (Obeys K O g r)) : Type 0 where
    pub puts : hand.promise.script ≡ script
    pub hears : e.readers.script ≡ script
    pub kept : hand.promise.keeper.value ≡ keeper
    pub linked : IsLinked hand e
    pub outs : length e.readers.outs.items ≡ 16
    pub unheard : taken_items e.answers ≡ []
    pub unasked : asked_of_hand e ≡ []
    pub untaken : AreUntaken e.readers.outs.items

  -- Hands were started for the first scripts of a worker.
  pub record OpenedTo (n w : ℕ) (keepers : List K) (ends : List (Ends K O g r)) (hands : List (PromisedHandle (HandEnd K O g r) (Obeys K O g r))) : Type 0 where
    pub count : length ends ≡ length hands
    pub each : (at : ℕ) (keeper : K) (e : Ends K O g r) (hand : PromisedHandle (HandEnd K O g r) (Obeys K O g r)) → slice_get keepers at ≡ Some keeper → slice_get ends at ≡ Some e → slice_get hands at ≡ Some hand →
        IsOpened (script_of n w (at + 1)) keeper e hand

  -- Hands were started for all scripts of a worker.
  abbrev pub AreOpened : ℕ → ℕ → List K → List (Ends K O g r) → List (PromisedHandle (HandEnd K O g r) (Obeys K O g r)) → Type 0
  AreOpened n w keepers ends hands = OpenedTo n w keepers ends hands × (length hands ≡ length keepers)

  -- What is left in a child's place is of this ring.
  abbrev pub IsLeftAt : Work K O g r → FeedOut (RingItem K O g r) → Type 0
  IsLeftAt (Free fresh) out = IsPair fresh.feed out
  IsLeftAt (Ended finished) out = IfSome finished (λ f. IsFinishedOf f out)

  abbrev pub IsLeftIn : ℕ → ℕ → Work K O g r → List (Ends K O g r) → Type 0
  IsLeftIn at index work ends = (e : Ends K O g r) → slice_get ends at ≡ Some e → (out : FeedOut (RingItem K O g r)) → slice_get e.readers.outs.items index ≡ Some out → IsLeftAt work out

  -- `IsLeftIn` holds of each child.
  abbrev pub AreLeftIn : ℕ → List (Work K O g r) → List (Ends K O g r) → Type 0
  AreLeftIn at works ends = (index : ℕ) (work : Work K O g r) → slice_get works index ≡ Some work → IsLeftIn at index work ends

  -- These are all items that were put into the ring of a place.
  abbrev pub IsAllOf : Work K O g r → List (RingItem K O g r) → Type 0
  IsAllOf (Free fresh) items = items ≡ []
  IsAllOf (Ended finished) items = (f : Finished (RingItem K O g r)) × (finished ≡ Some f) × (items ≡ all_put f)

  -- This is the finished ring of a place.
  abbrev pub IsFinishOf : Work K O g r → Finished (RingItem K O g r) → Type 0
  IsFinishOf work f = ((out : FeedOut (RingItem K O g r)) → IsLeftAt work out → IsFinishedOf f out) × IsAllOf work (all_put f)

  -- Unless the child is listed as unsettled, all that was put into its ring was taken.
  abbrev pub IsTakenIn : ℕ → ℕ → ℕ → Work K O g r → List (Ends K O g r) → List Unsettled → Type 0
  IsTakenIn at script index work ends unsettled =
      (Contains unsettled (record { script = script; child = index + 1 }) → ⊥) → (items : List (RingItem K O g r)) × IsAllOf work items × TakenIn at index items ends

  -- `IsTakenIn` holds of each child.
  abbrev pub AreTakenIn : ℕ → ℕ → List (Work K O g r) → List (Ends K O g r) → List Unsettled → Type 0
  AreTakenIn at script works ends unsettled = (index : ℕ) (work : Work K O g r) → slice_get works index ≡ Some work → IsTakenIn at script index work ends unsettled

  -- Only the endpoints of the script at `at` changed.
  abbrev pub SameElsewhere : ℕ → List (Ends K O g r) → List (Ends K O g r) → Type 0
  SameElsewhere at ends ends' = (i : ℕ) → i ≢ at → slice_get ends' i ≡ slice_get ends i

  -- What was taken from the finished ring of a hand is a prefix of all that was put there.
  abbrev pub IsClosedIn : ℕ → Option (Finished (RingItem K O g r)) → List (Ends K O g r) → Type 0
  IsClosedIn at answers ends = (f : Finished (RingItem K O g r)) × (answers ≡ Some f) × IsFrontIn at (all_put f) ends

  -- `IsClosedIn` holds, unless all of these children are listed.
  abbrev pub AreClosedIn : ℕ → ℕ → Option (Finished (RingItem K O g r)) → ℕ → List (Ends K O g r) → List Unsettled → Type 0
  AreClosedIn at script answers count ends unsettled = (index : ℕ) → index < count → (Contains unsettled (record { script = script; child = index + 1 }) → ⊥) → IsClosedIn at answers ends

  -- `put` is all answers that a hand put. What was taken of them is a prefix.
  pub record IsAnswered (at : ℕ) (hand : PromisedHandle (HandEnd K O g r) (Obeys K O g r)) (ends : List (Ends K O g r)) : Type 0 where
    pub put : List (RingItem K O g r)
    pub requests : List Request
    pub answers : AreAnswers hand.promise.script (g.named hand.promise.keeper.value) (g.made hand.promise.keeper.value) requests put
    pub front : IsFrontIn at put ends

  -- For each child of a hand's script that isn't listed, what was taken is exactly what its keeper gave, if anything.
  abbrev pub IsSettled : ℕ → ℕ → PromisedHandle (HandEnd K O g r) (Obeys K O g r) → List (Ends K O g r) → List Unsettled → Type 0
  IsSettled script at hand ends unsettled = (index : ℕ) → index < 16 → (Contains unsettled (record { script = script; child = index + 1 }) → ⊥) →
      (a : IsAnswered at hand ends) × (items : List (RingItem K O g r)) × IsPut hand.promise.script (g.named hand.promise.keeper.value) (index + 1) a.put items × TakenIn at index items ends

  -- `IsSettled` holds of each hand of a worker.
  abbrev pub AreSettled : ℕ → ℕ → List (PromisedHandle (HandEnd K O g r) (Obeys K O g r)) → List (Ends K O g r) → List Unsettled → Type 0
  AreSettled n w hands ends unsettled = (at : ℕ) (hand : PromisedHandle (HandEnd K O g r) (Obeys K O g r)) → slice_get hands at ≡ Some hand → IsSettled (script_of n w (at + 1)) at hand ends unsettled

-- No listed child was removed.
abbrev pub KeepsListed : List Unsettled → List Unsettled → Type 0
KeepsListed old new = (u : Unsettled) → Contains old u → Contains new u

-- Each of the 16 children of a script is listed.
abbrev pub AreListed : ℕ → List Unsettled → Type 0
AreListed script unsettled = (index : ℕ) → index < 16 → Contains unsettled (record { script = script; child = index + 1 })

-- `AreListed` holds of a worker's first `count` scripts.
abbrev pub AllListed : ℕ → ℕ → ℕ → List Unsettled → Type 0
AllListed n w count unsettled = (at : ℕ) → at < count → AreListed (script_of n w (at + 1)) unsettled
