-- The requests, answers and readers of a hand.
use Rattle.std.specs.Prelude.{◌≡◌, ℕ, ◌+◌, ◌^◌, ◌≤◌, Bool, true, false, ◌&&◌, ◌==◌, List, [], ◌∷◌, ◌++◌, length, Option, None, Some, IfSome, ⊤, ◌≢◌, slice_get, if◌then◌else◌}
use Rattle.std.specs.declared.io.traits.Read.{Ghosts as ReadGhosts}
use Rattle.child_events.specs.declared.event.Answer.TheVariants as reply
use Rattle.child_events.specs.declared.event.Answer.{Answer as Reply}
use Rattle.child_hands.specs.Pumped.{IsPumpList}
use Rattle.child_hands.specs.declared.order.Instruction.TheVariants.{Do, Halt, Nothing}
use Rattle.child_hands.specs.declared.order.Instruction.{Instruction}
use Rattle.child_hands.specs.declared.work.Fresh.{Fresh}
use Rattle.child_hands.specs.declared.work.HandEnd.{HandEnd}
use Rattle.child_hands.specs.declared.work.Outcome.TheVariants.{Stopped, Exhausted, Left}
use Rattle.child_hands.specs.declared.work.Outcome.{Outcome}
use Rattle.child_hands.specs.declared.work.Reader.{Reader}
use Rattle.child_hands.specs.declared.work.Work.TheVariants.{Free, Ended}
use Rattle.child_hands.specs.declared.work.Work.{Work}
use Rattle.child_hands.specs.declared.items.RingItem.TheVariants.{Out, End, ReadFail, Answer, Ask, Stop}
use Rattle.child_hands.specs.declared.items.RingItem.{RingItem}
use Rattle.child_hands.specs.declared.keeper.Keeper.{Ghosts}
use Rattle.expect_core.specs.declared.request.Act.TheVariants as act
use Rattle.expect_core.specs.declared.request.Act.{Act}
use Rattle.expect_core.specs.declared.request.Request.{Request}
use Rattle.feed_rings.specs.Ends.{put_items, room, taken_items, all_put, SameIn, SameOut, EndsRingOf}
use Rattle.feed_rings.specs.declared.feed.FeedIn.{FeedIn}
use Rattle.feed_rings.specs.declared.feed.FeedOut.{FeedOut}
use Rattle.feed_rings.specs.declared.feed.Finished.{Finished}

abbrev pub is_spawn : Act → Bool
is_spawn (act.Spawn words) = true
is_spawn (act.Write bytes) = false
is_spawn act.End = false
is_spawn act.Close = false
is_spawn act.Wait = false

abbrev pub is_ok : Reply → Bool
is_ok reply.Ok = true
is_ok (reply.Fail cause) = false
is_ok (reply.Exit status) = false
is_ok reply.Killed = false

-- 1 if the answer is a failure, otherwise 0.
abbrev pub failure_of : Reply → ℕ
failure_of (reply.Fail cause) = 1
failure_of reply.Ok = 0
failure_of (reply.Exit status) = 0
failure_of reply.Killed = 0

-- The answer says that a child was started.
abbrev pub starts : Request → Reply → Bool
starts request answer = is_spawn request.act && is_ok answer

-- The state of a hand: its keeper's numbers of calls and failures, the items taken and put, and the places of the
-- children.
pub record At (I W R : Type 0) : Type 0 where
  pub made : ℕ
  pub failed : ℕ
  pub taken : List I
  pub put : List I
  pub works : List W
  pub readers : List R

-- x is at this index now, and the other places are unchanged.
pub record PutsAt {X : Type 0} (index : ℕ) (x : X) (old new : List X) : Type 0 where
  pub here : slice_get new index ≡ Some x
  pub others : (i : ℕ) → i ≢ index → slice_get new i ≡ slice_get old i

module _ {K O : Type 0} {g : Ghosts K O} {r : ReadGhosts O} where
  -- The requests among items.
  abbrev pub requests_of : List (RingItem K O g r) → List Request
  requests_of [] = []
  requests_of (Ask request ∷ xs) = request ∷ requests_of xs
  requests_of (Out s c p ∷ xs) = requests_of xs
  requests_of (End s c ∷ xs) = requests_of xs
  requests_of (ReadFail s c e ∷ xs) = requests_of xs
  requests_of (Answer s a ∷ xs) = requests_of xs
  requests_of (Stop ∷ xs) = requests_of xs

  -- The number of failures among the answers.
  abbrev pub failures_of : List (RingItem K O g r) → ℕ
  failures_of [] = 0
  failures_of (Answer s a ∷ xs) = failure_of a.answer + failures_of xs
  failures_of (Ask request ∷ xs) = failures_of xs
  failures_of (Out s c p ∷ xs) = failures_of xs
  failures_of (End s c ∷ xs) = failures_of xs
  failures_of (ReadFail s c e ∷ xs) = failures_of xs
  failures_of (Stop ∷ xs) = failures_of xs

  -- What an item asks of a hand.
  abbrev pub order_of : RingItem K O g r → Instruction
  order_of (Ask request) = Do request
  order_of Stop = Halt
  order_of (Out s c p) = Nothing
  order_of (End s c) = Nothing
  order_of (ReadFail s c e) = Nothing
  order_of (Answer s a) = Nothing

  -- Each request was answered once, in order, by the keeper's calls after number n. The answers are items of this
  -- script.
  abbrev pub AreAnswers : ℕ → ℕ → ℕ → List Request → List (RingItem K O g r) → Type 0
  AreAnswers script name n [] [] = ⊤
  AreAnswers script name n (q ∷ qs) (Answer s a ∷ xs) =
      (s ≡ script) × (a.name ≡ name) × (a.call ≡ n + 1) × (a.request ≡ q) × AreAnswers script name (n + 1) qs xs
  AreAnswers script name n qs xs = ⊥

  -- The number of the call that first started this child.
  abbrev pub spawn_call : ℕ → List (RingItem K O g r) → Option ℕ
  spawn_call child [] = None
  spawn_call child (Answer s a ∷ xs) = (if (a.request.child == child) && starts a.request a.answer then Some a.call else spawn_call child xs)
  spawn_call child (Out s c p ∷ xs) = spawn_call child xs
  spawn_call child (End s c ∷ xs) = spawn_call child xs
  spawn_call child (ReadFail s c e ∷ xs) = spawn_call child xs
  spawn_call child (Ask q ∷ xs) = spawn_call child xs
  spawn_call child (Stop ∷ xs) = spawn_call child xs

  -- The keeper gave a reader in the call that first started the child. The finished ring contains what that reader
  -- read.
  abbrev pub IsWorkOf : ℕ → ℕ → ℕ → List (RingItem K O g r) → FeedIn (RingItem K O g r) → Finished (RingItem K O g r) → Type 0
  IsWorkOf script child name put was f =
      EndsRingOf was f
      × ((call : ℕ) × (bytes : Option (List ℕ)) × (spawn_call child put ≡ Some call) × g.gives name call bytes × IsPumpList script child bytes (all_put f))

  -- The place of a child whose ring had the end `was`, after these answers were put.
  abbrev pub IsWork : ℕ → ℕ → ℕ → List (RingItem K O g r) → FeedIn (RingItem K O g r) → Work K O g r → Type 0
  IsWork script child name put was (Free fresh) = SameIn was fresh.feed × (spawn_call child put ≡ None)
  IsWork script child name put was (Ended finished) = IfSome finished (IsWorkOf script child name put was)

  -- The places of the children 1, 2 and so on.
  abbrev pub AreWorks : ℕ → ℕ → List (RingItem K O g r) → List (FeedIn (RingItem K O g r)) → List (Work K O g r) → Type 0
  AreWorks script name put feeds works =
      (i : ℕ) (was : FeedIn (RingItem K O g r)) (work : Work K O g r)
      → slice_get feeds i ≡ Some was → slice_get works i ≡ Some work → IsWork script (i + 1) name put was work

  -- Between these two lists of answers, this call started the child, unless it had been started before. No other child
  -- was started.
  pub record StartsAt (child call : ℕ) (put put' : List (RingItem K O g r)) : Type 0 where
    pub others : (c : ℕ) → c ≢ child → spawn_call c put' ≡ spawn_call c put
    pub first : spawn_call child put ≡ None → spawn_call child put' ≡ Some call
    pub later : (k : ℕ) → spawn_call child put ≡ Some k → spawn_call child put' ≡ Some k

  -- A running reader, after these answers were put.
  abbrev pub IsReader : ℕ → ℕ → List (RingItem K O g r) → List (FeedIn (RingItem K O g r)) → Reader K O g r → Type 0
  IsReader script name put feeds reader =
      (was : FeedIn (RingItem K O g r)) → slice_get feeds reader.index ≡ Some was
      → (call : ℕ) × (spawn_call (reader.index + 1) put ≡ Some call) × g.gives name call (r.remaining reader.handle.promise.out.value)
      × SameIn was reader.handle.promise.feed.value × (reader.handle.promise.script ≡ script) × (reader.handle.promise.child ≡ reader.index + 1)

  abbrev pub AreReaders : ℕ → ℕ → List (RingItem K O g r) → List (FeedIn (RingItem K O g r)) → List (Reader K O g r) → Type 0
  AreReaders script name put feeds [] = ⊤
  AreReaders script name put feeds (x ∷ xs) = IsReader script name put feeds x × AreReaders script name put feeds xs

  -- The places of the children, and their readers.
  pub record ArePlaces (script name : ℕ) (put : List (RingItem K O g r)) (feeds : List (FeedIn (RingItem K O g r))) (works : List (Work K O g r)) (readers : List (Reader K O g r)) : Type 0 where
    pub free : AreWorks script name put feeds works
    pub busy : AreReaders script name put feeds readers

  -- The free place of a child was taken.
  abbrev pub TakesPlace : ℕ → Fresh K O g r → List (Work K O g r) → List (Work K O g r) → Type 0
  TakesPlace index fresh works works' = (slice_get works index ≡ Some (Free fresh)) × PutsAt index (Ended None) works works'

  -- The place isn't free.
  abbrev pub IsTaken : ℕ → List (Work K O g r) → Type 0
  IsTaken index works = (fresh : Fresh K O g r) → slice_get works index ≢ Some (Free fresh)

  -- The places after a child was given a reader of these bytes.
  abbrev pub KeepsWorks : ℕ → ℕ → Option (List ℕ) → List (Work K O g r) → List (Reader K O g r) → List (Work K O g r) → List (Reader K O g r) → Type 0
  KeepsWorks script child bytes works readers works' readers' =
      (name call : ℕ) (put put' : List (RingItem K O g r)) (feeds : List (FeedIn (RingItem K O g r)))
      → g.gives name call bytes → StartsAt child call put put' → ArePlaces script name put feeds works readers → ArePlaces script name put' feeds works' readers'

  -- A hand that has taken and put these items. When it began, its keeper had made `start` calls, and `before` of them
  -- had failed.
  pub record IsGoing (script name start before made failed : ℕ) (taken put : List (RingItem K O g r)) (feeds : List (FeedIn (RingItem K O g r))) (works : List (Work K O g r)) (readers : List (Reader K O g r)) : Type 0 where
    pub answers : AreAnswers script name start (requests_of taken) put
    pub calls : made ≡ start + length (requests_of taken)
    pub fails : before + failures_of put ≤ failed
    pub places : ArePlaces script name put feeds works readers

  -- The state of a hand that went on from another state.
  abbrev pub GoesOn : ℕ → ℕ → At (RingItem K O g r) (Work K O g r) (Reader K O g r) → At (RingItem K O g r) (Work K O g r) (Reader K O g r) → Type 0
  GoesOn script name a b =
      (start before : ℕ) (feeds : List (FeedIn (RingItem K O g r)))
      → IsGoing script name start before a.made a.failed a.taken a.put feeds a.works a.readers
      → IsGoing script name start before b.made b.failed b.taken b.put feeds b.works b.readers

  -- One more request was taken and answered.
  abbrev pub KeepsGoing : ℕ → ℕ → Request → At (RingItem K O g r) (Work K O g r) (Reader K O g r) → At (RingItem K O g r) (Work K O g r) (Reader K O g r) → Type 0
  KeepsGoing script name request a b = (taken : List (RingItem K O g r)) → GoesOn script name (record a { taken = taken }) (record b { taken = taken ++ Ask request ∷ [] })

  abbrev pub EndsInStop : List (RingItem K O g r) → Type 0
  EndsInStop taken = (xs : List (RingItem K O g r)) × (taken ≡ xs ++ Stop ∷ [])

  -- A hand ends after `Stop`, or if its keeper has no number left. It also ends if the ring for its answers is full and
  -- has no taking end.
  abbrev pub IsEnded : Outcome → ℕ → ℕ → List (RingItem K O g r) → Type 0
  IsEnded Stopped made space taken = EndsInStop taken
  IsEnded Exhausted made space taken = 2 ^ 63 ≤ made
  IsEnded Left made space taken = space ≡ 0

  -- These places and readers can replace those.
  abbrev pub KeepsPlaces : List (Work K O g r) → List (Reader K O g r) → List (Work K O g r) → List (Reader K O g r) → Type 0
  KeepsPlaces works readers works' readers' =
      (script name : ℕ) (put : List (RingItem K O g r)) (feeds : List (FeedIn (RingItem K O g r)))
      → ArePlaces script name put feeds works readers → ArePlaces script name put feeds works' readers'

  -- The items that a reader put are at its child's place, if they are available.
  abbrev pub EndsReader : Reader K O g r → List (Work K O g r) → List (Work K O g r) → Type 0
  EndsReader reader works works' = (readers : List (Reader K O g r)) → KeepsPlaces works (readers ++ reader ∷ []) works' readers

  -- The result of a hand that was given these.
  pub record IsHandEnd (script : ℕ) (keeper : K) (asks : FeedOut (RingItem K O g r)) (answers : FeedIn (RingItem K O g r)) (works : List (Work K O g r)) (e : HandEnd K O g r) : Type 0 where
    pub made : ℕ
    pub failed : ℕ
    pub put : FeedIn (RingItem K O g r)
    pub asked : SameOut asks e.asks
    pub answered : SameIn answers put
    pub size : length e.works.items ≡ length works
    pub going : GoesOn script (g.named keeper)
        (record { made = g.made keeper; failed = g.failed keeper; taken = taken_items asks; put = put_items answers; works = works; readers = [] })
        (record { made = made; failed = failed; taken = taken_items e.asks; put = put_items put; works = e.works.items; readers = [] })
    pub ended : IsEnded e.outcome made (room put) (taken_items e.asks)
    pub finished : IfSome e.answers (λ f. EndsRingOf answers f × (all_put f ≡ put_items put))
