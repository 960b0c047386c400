-- Rings that are made, hands that are started, and what they leave.
use Rattle.std.proofs.Common.{◌≡◌, ◌⊎◌, inl, inr, ℕ, zero, suc, ◌+◌, ◌<◌, List, [], ◌∷◌, ◌++◌, length, Option, Some, None, refl, sym, ap, subst, ◌∙◌, arith}
use Rattle.std.specs.Prelude.{slice_get, map, IfSome}
use Rattle.std.proofs.lemmas.Option.{slice_get_within}
use Rattle.std.specs.declared.io.traits.Read.{Ghosts as ReadGhosts}
use Rattle.std.specs.declared.thread.PromisedHandle.{PromisedHandle}
use Rattle.child_hands.specs.declared.keeper.Keeper.{Ghosts}
use Rattle.child_hands.specs.declared.items.RingItem.{RingItem}
use Rattle.feed_rings.specs.Ends.{put_items, taken_items, all_put, IsPair, SameIn, SameOut, EndsRingOf, IsFinishedOf}
use Rattle.feed_rings.specs.declared.feed.FeedIn.{FeedIn}
use Rattle.feed_rings.specs.declared.feed.FeedOut.{FeedOut}
use Rattle.feed_rings.specs.declared.feed.Finished.{Finished}
use Rattle.child_hands.specs.declared.thread.Obeys.{Obeys}
use Rattle.child_hands.specs.declared.work.Fresh.{Fresh}
use Rattle.child_hands.specs.declared.work.HandEnd.{HandEnd}
use Rattle.child_hands.specs.declared.work.Work.{Work}
use Rattle.child_hands.specs.declared.work.Work.TheVariants.{Free, Ended}
use Rattle.child_hands.specs.Handed.{IsHandEnd, IsGoing, IsWork, AreWorks, AreAnswers, requests_of}
use Rattle.child_hands.specs.Pumped.{IsPumpList}
use Rattle.child_desk.specs.declared.ends.Ends.{Ends}
use Rattle.child_desk.specs.Told.{put_of, waiting, asked_of_hand}
use Rattle.child_desk.proofs.Places.{nothing_there, one_there}
use Rattle.run_records.specs.Joined.{script_of}
use Rattle.child_serve.specs.Given.{IsPut}
use Rattle.child_serve.specs.Opened.{AreUnused, ArePaired, AreUntaken, AreRings, IsOpened, OpenedTo, IsLeftAt, IsAllOf, IsFinishOf}

-- lists

pub there : {X : Type 0} → (xs : List X) (i : ℕ) → i < length xs → (x : X) × (slice_get xs i ≡ Some x)
there [] i lt = absurd (omega (arith, lt))
there (x ∷ xs) zero lt = (x, refl)
there (x ∷ xs) (suc i) lt = there xs i (omega (arith, lt))

last_or_before : {X : Type 0} (xs : List X) (x : X) (i : ℕ) (y : X) → slice_get (xs ++ x ∷ []) i ≡ Some y → (slice_get xs i ≡ Some y) ⊎ ((i ≡ length xs) × (x ≡ y))
last_or_before [] x zero y got = inr (refl, one_there x y got)
last_or_before [] x (suc i) y got = absurd (nothing_there y got)
last_or_before (z ∷ xs) x zero y got = inl got
last_or_before (z ∷ xs) x (suc i) y got = elim (last_or_before xs x i y got) [
  | inl old ↦ inl old
  | inr new ↦ inr (ap suc new.0, new.1)
]

pub one_longer : {X : Type 0} (xs : List X) (x : X) → length (xs ++ x ∷ []) ≡ length xs + 1
one_longer [] x = refl
one_longer (y ∷ xs) x = let e = one_longer xs x in omega (arith, e)

-- those of a list from the nth on
abbrev pub IsRest : {X : Type 0} → List X → ℕ → List X → Type 0
IsRest all n rest = (j : ℕ) → slice_get rest j ≡ slice_get all (n + j)

pub rest_whole : {X : Type 0} (all rest : List X) → rest ≡ all → IsRest all 0 rest
rest_whole all rest is j = ap (λ (l : List _). slice_get l j) is ∙ ap (slice_get all) (let e : j ≡ 0 + j = omega arith in e)

pub rest_first : {X : Type 0} (all : List X) (n : ℕ) (rest rest' : List X) (x : X) → IsRest all n rest → rest ≡ x ∷ rest' → slice_get all n ≡ Some x
rest_first all n rest rest' x is step = ap (slice_get all) (let e : n ≡ n + 0 = omega arith in e) ∙ sym (is 0) ∙ ap (λ (l : List _). slice_get l 0) step

pub rest_next : {X : Type 0} (all : List X) (n : ℕ) (rest rest' : List X) (x : X) → IsRest all n rest → rest ≡ x ∷ rest' → IsRest all (n + 1) rest'
rest_next all n rest rest' x is step j = ap (λ (l : List _). slice_get l (suc j)) (sym step) ∙ is (suc j) ∙ ap (slice_get all) (let e : n + suc j ≡ n + 1 + j = omega arith in e)

-- ends of one ring

module _ {T : Type 0} where
  free_left : (was feed : FeedIn T) (out : FeedOut T) → SameIn was feed → IsPair was out → IsPair feed out
  free_left was feed out p q = (q.0 ∙ sym p.0, q.1 ∙ sym p.1, q.2 ∙ sym p.2, q.3 ∙ sym p.3)

  ended_left : (was : FeedIn T) (f : Finished T) (out : FeedOut T) → EndsRingOf was f → IsPair was out → IsFinishedOf f out
  ended_left was f out p q = (q.0 ∙ sym p.0, q.1 ∙ sym p.1, q.2 ∙ sym p.2, q.3 ∙ sym p.3)

  pub pair_on : (feed : FeedIn T) (out out' : FeedOut T) → IsPair feed out → SameOut out out' → IsPair feed out'
  pair_on feed out out' p q = (q.0 ∙ p.0, q.1 ∙ p.1, q.2 ∙ p.2, q.3 ∙ p.3)

  pub finished_on : (f : Finished T) (out out' : FeedOut T) → IsFinishedOf f out → SameOut out out' → IsFinishedOf f out'
  finished_on f out out' p q = (q.0 ∙ p.0, q.1 ∙ p.1, q.2 ∙ p.2, q.3 ∙ p.3)

module _ {K O : Type 0} {g : Ghosts K O} {r : ReadGhosts O} where
  -- rings that are made one by one

  pub no_rings : AreRings {K = K} {O = O} {g = g} {r = r} 0 [] []
  no_rings = record {
    works_count = refl;
    outs_count = refl;
    unused = λ i work got. absurd (nothing_there work got);
    paired = λ i fresh out got here. absurd (nothing_there out here);
    untaken = λ i out here. absurd (nothing_there out here);
  }

  free_there : (a b : Fresh K O g r) → ◌≡◌ {A = Work K O g r} (Free a) (Free b) → a ≡ b
  free_there a b h = cc

  pub one_ring : (n : ℕ) (works works' : List (Work K O g r)) (outs outs' : List (FeedOut (RingItem K O g r))) (fresh : Fresh K O g r) (out : FeedOut (RingItem K O g r)) →
      works' ≡ works ++ Free fresh ∷ [] → outs' ≡ outs ++ out ∷ [] → IsPair fresh.feed out → taken_items out ≡ [] → AreRings n works outs → AreRings (n + 1) works' outs'
  one_ring n works works' outs outs' fresh out works_is outs_is pair none are = record {
    works_count = ap length works_is ∙ one_longer works (Free fresh) ∙ ap (λ (k : ℕ). k + 1) are.works_count;
    outs_count = ap length outs_is ∙ one_longer outs out ∙ ap (λ (k : ℕ). k + 1) are.outs_count;
    unused = λ i work got. elim (last_or_before works (Free fresh) i work (work_at i work got)) [
      | inl old ↦ are.unused i work old
      | inr new ↦ (fresh, sym new.1)
    ];
    paired = λ i f o got here. by_place i f o (last_or_before works (Free fresh) i (Free f) (work_at i (Free f) got)) (last_or_before outs out i o (out_at i o here));
    untaken = λ i o here. elim (last_or_before outs out i o (out_at i o here)) [
      | inl old ↦ are.untaken i o old
      | inr new ↦ subst (λ (x : FeedOut (RingItem K O g r)). taken_items x ≡ []) new.1 none
    ];
  }
    where
      work_at : (i : ℕ) (work : Work K O g r) → slice_get works' i ≡ Some work → slice_get (works ++ Free fresh ∷ []) i ≡ Some work
      work_at i work got = ap (λ (l : List (Work K O g r)). slice_get l i) (sym works_is) ∙ got

      out_at : (i : ℕ) (o : FeedOut (RingItem K O g r)) → slice_get outs' i ≡ Some o → slice_get (outs ++ out ∷ []) i ≡ Some o
      out_at i o here = ap (λ (l : List (FeedOut (RingItem K O g r))). slice_get l i) (sym outs_is) ∙ here

      by_place : (i : ℕ) (f : Fresh K O g r) (o : FeedOut (RingItem K O g r)) → (slice_get works i ≡ Some (Free f)) ⊎ ((i ≡ length works) × (Free fresh ≡ Free f)) → (slice_get outs i ≡ Some o) ⊎ ((i ≡ length outs) × (out ≡ o)) → IsPair f.feed o
      by_place i f o (inl a) (inl b) = are.paired i f o a b
      by_place i f o (inl a) (inr b) =
          let within = slice_get_within works i (Free f) a in
          let last = b.0 in
          let w = are.works_count in
          let u = are.outs_count in
          absurd (omega (arith, within, last, w, u))
      by_place i f o (inr a) (inl b) =
          let within = slice_get_within outs i o b in
          let last = a.0 in
          let w = are.works_count in
          let u = are.outs_count in
          absurd (omega (arith, within, last, w, u))
      by_place i f o (inr a) (inr b) =
          subst (λ (x : Fresh K O g r). IsPair x.feed o) (free_there fresh f a.1) (subst (λ (x : FeedOut (RingItem K O g r)). IsPair fresh.feed x) b.1 pair)

  -- nothing was put to it
  pub none_asked : (e : Ends K O g r) → put_items e.asks ≡ [] → e.ready ≡ None → asked_of_hand e ≡ []
  none_asked e none free = ap (λ (xs : List (RingItem K O g r)). map put_of xs ++ waiting e.ready) none ∙ ap (λ (o : Option (RingItem K O g r)). waiting o) free

  -- a hand that is started
  pub is_opened : (script : ℕ) (keeper : K) (e : Ends K O g r) (hand : PromisedHandle (HandEnd K O g r) (Obeys K O g r)) (works : List (Work K O g r)) (outs : List (FeedOut (RingItem K O g r))) →
      hand.promise.script ≡ script → hand.promise.keeper.value ≡ keeper → taken_items hand.promise.asks.value ≡ [] → put_items hand.promise.answers.value ≡ [] → IsPair hand.promise.answers.value e.answers → taken_items e.answers ≡ [] → asked_of_hand e ≡ [] →
      hand.promise.works.value.items ≡ works → e.readers.script ≡ script → e.readers.outs.items ≡ outs → AreRings 16 works outs → IsOpened script keeper e hand
  is_opened script keeper e hand works outs puts kept asks answers answering unheard unasked works_are hears outs_are rings = record {
    puts = puts;
    hears = hears;
    kept = kept;
    linked = record {
      asks = asks;
      answers = answers;
      answering = answering;
      count = ap length works_are ∙ rings.works_count;
      unused = subst (λ (ws : List (Work K O g r)). AreUnused ws) (sym works_are) rings.unused;
      paired = subst (λ (ws : List (Work K O g r)). ArePaired ws e.readers.outs.items) (sym works_are) (subst (λ (os : List (FeedOut (RingItem K O g r))). ArePaired works os) (sym outs_are) rings.paired);
    };
    outs = ap length outs_are ∙ rings.outs_count;
    unheard = unheard;
    unasked = unasked;
    untaken = subst (λ (os : List (FeedOut (RingItem K O g r))). AreUntaken os) (sym outs_are) rings.untaken;
  }

  -- hands that are started one by one

  pub none_opened : (n w : ℕ) (keepers : List K) (ends : List (Ends K O g r)) (hands : List (PromisedHandle (HandEnd K O g r) (Obeys K O g r))) → ends ≡ [] → hands ≡ [] → OpenedTo n w keepers ends hands
  none_opened n w keepers ends hands no_ends no_hands = record {
    count = ap length no_ends ∙ sym (ap length no_hands);
    each = λ at keeper e hand k here got. absurd (nothing_there e (ap (λ (l : List (Ends K O g r)). slice_get l at) (sym no_ends) ∙ here));
  }

  pub one_opened : (n w : ℕ) (keepers : List K) (ends ends' : List (Ends K O g r)) (hands hands' : List (PromisedHandle (HandEnd K O g r) (Obeys K O g r))) (keeper : K) (e : Ends K O g r) (hand : PromisedHandle (HandEnd K O g r) (Obeys K O g r)) →
      ends' ≡ ends ++ e ∷ [] → hands' ≡ hands ++ hand ∷ [] → slice_get keepers (length hands) ≡ Some keeper → IsOpened (script_of n w (length hands + 1)) keeper e hand → OpenedTo n w keepers ends hands → OpenedTo n w keepers ends' hands'
  one_opened n w keepers ends ends' hands hands' keeper e hand ends_is hands_is mine is are = record {
    count = ap length ends_is ∙ one_longer ends e ∙ ap (λ (k : ℕ). k + 1) are.count ∙ sym (one_longer hands hand) ∙ sym (ap length hands_is);
    each = λ at k x h got here there. by_place at k x h got (last_or_before ends e at x (ap (λ (l : List (Ends K O g r)). slice_get l at) (sym ends_is) ∙ here))
        (last_or_before hands hand at h (ap (λ (l : List (PromisedHandle (HandEnd K O g r) (Obeys K O g r))). slice_get l at) (sym hands_is) ∙ there));
  }
    where
      by_place : (at : ℕ) (k : K) (x : Ends K O g r) (h : PromisedHandle (HandEnd K O g r) (Obeys K O g r)) → slice_get keepers at ≡ Some k →
          (slice_get ends at ≡ Some x) ⊎ ((at ≡ length ends) × (e ≡ x)) → (slice_get hands at ≡ Some h) ⊎ ((at ≡ length hands) × (hand ≡ h)) → IsOpened (script_of n w (at + 1)) k x h
      by_place at k x h got (inl a) (inl b) = are.each at k x h got a b
      by_place at k x h got (inl a) (inr b) =
          let within = slice_get_within ends at x a in
          let last = b.0 in
          let c = are.count in
          absurd (omega (arith, within, last, c))
      by_place at k x h got (inr a) (inl b) =
          let within = slice_get_within hands at h b in
          let last = a.0 in
          let c = are.count in
          absurd (omega (arith, within, last, c))
      by_place at k x h got (inr a) (inr b) =
          let one : keeper ≡ k = one_there keeper k (sym mine ∙ ap (slice_get keepers) (sym b.0) ∙ got) in
          subst (λ (m : ℕ). IsOpened (script_of n w (m + 1)) k x h) (sym b.0)
          (subst (λ (y : K). IsOpened (script_of n w (length hands + 1)) y x h) one
          (subst (λ (y : Ends K O g r). IsOpened (script_of n w (length hands + 1)) keeper y h) a.1
          (subst (λ (y : PromisedHandle (HandEnd K O g r) (Obeys K O g r)). IsOpened (script_of n w (length hands + 1)) keeper e y) b.1 is)))

  -- what is left at a place

  pub ended_finish : (o : Option (Finished (RingItem K O g r))) → IfSome o (IsFinishOf (Ended o))
  ended_finish None = tt
  ended_finish (Some f) = ((λ out left. left), (f, refl, refl))

  -- What a hand leaves that was started with nothing in its own rings and none of its children started.
  module _ (script : ℕ) (keeper : K) (asks : FeedOut (RingItem K O g r)) (answers : FeedIn (RingItem K O g r)) (works : List (Work K O g r)) (e : HandEnd K O g r)
      (no_asks : taken_items asks ≡ []) (no_answers : put_items answers ≡ []) (unused : AreUnused works) (is : IsHandEnd script keeper asks answers works e) where
    -- the rings' ends at free places
    abbrev AreFeeds : List (Work K O g r) → List (FeedIn (RingItem K O g r)) → Type 0
    AreFeeds ws feeds = (i : ℕ) (work : Work K O g r) → slice_get ws i ≡ Some work → (fresh : Fresh K O g r) × (work ≡ Free fresh) × (slice_get feeds i ≡ Some fresh.feed)

    feeds_of : (ws : List (Work K O g r)) → AreUnused ws → (feeds : List (FeedIn (RingItem K O g r))) × AreFeeds ws feeds
    feeds_of [] are = ([], λ i work got. absurd (nothing_there work got))
    feeds_of (x ∷ ws) are =
        let first = are 0 x refl in
        let rest = feeds_of ws (λ i work got. are (suc i) work got) in
        (first.0.feed ∷ rest.0, by_place first rest)
      where
        by_place : (first : (fresh : Fresh K O g r) × (x ≡ Free fresh)) (rest : (feeds : List (FeedIn (RingItem K O g r))) × AreFeeds ws feeds) → AreFeeds (x ∷ ws) (first.0.feed ∷ rest.0)
        by_place first rest zero work got = (first.0, sym (one_there x work got) ∙ first.1, refl)
        by_place first rest (suc i) work got = rest.1 i work got

    fs : (feeds : List (FeedIn (RingItem K O g r))) × AreFeeds works feeds
    fs = feeds_of works unused

    abbrev name : ℕ
    name = g.named keeper

    free_first : AreWorks script name [] fs.0 works
    free_first i was work at here =
        let f = fs.1 i work here in
        subst (IsWork script (i + 1) name [] was) (sym f.1)
        (subst (λ (x : FeedIn (RingItem K O g r)). IsWork script (i + 1) name [] x (Free f.0)) (one_there f.0.feed was (sym f.2 ∙ at)) ((refl, refl, refl, refl), refl))

    first : IsGoing script name (g.made keeper) (g.failed keeper) (g.made keeper) (g.failed keeper) [] [] fs.0 works []
    first = record { answers = tt; calls = omega arith; fails = omega arith; places = record { free = free_first; busy = tt } }

    last : IsGoing script name (g.made keeper) (g.failed keeper) is.made is.failed (taken_items e.asks) (put_items is.put) fs.0 e.works.items []
    last =
        is.going (g.made keeper) (g.failed keeper) fs.0
        (subst (λ (xs : List (RingItem K O g r)). IsGoing script name (g.made keeper) (g.failed keeper) (g.made keeper) (g.failed keeper) xs (put_items answers) fs.0 works []) (sym no_asks)
        (subst (λ (xs : List (RingItem K O g r)). IsGoing script name (g.made keeper) (g.failed keeper) (g.made keeper) (g.failed keeper) [] xs fs.0 works []) (sym no_answers) first))

    -- a place of then and the ring's end that it had at first
    record WasAt (i : ℕ) (work : Work K O g r) : Type 0 where
      fresh : Fresh K O g r
      first : slice_get works i ≡ Some (Free fresh)
      now : IsWork script (i + 1) name (put_items is.put) fresh.feed work

    was_at : (i : ℕ) (work : Work K O g r) → slice_get e.works.items i ≡ Some work → WasAt i work
    was_at i work got =
        let within = slice_get_within e.works.items i work got in
        let size = is.size in
        let x = there works i (omega (arith, within, size)) in
        let f = fs.1 i x.0 x.1 in
        record { fresh = f.0; first = x.1 ∙ ap (λ (y : Work K O g r). Some y) f.1; now = last.places.free i f.0.feed work f.2 got }

    left_by : (was : FeedIn (RingItem K O g r)) (out : FeedOut (RingItem K O g r)) (i : ℕ) (work : Work K O g r) → IsPair was out → IsWork script (i + 1) name (put_items is.put) was work → IsLeftAt work out
    left_by was out i (Free fresh) pair now = free_left was fresh.feed out now.0 pair
    left_by was out i (Ended None) pair now = tt
    left_by was out i (Ended (Some f)) pair now = ended_left was f out now.0 pair

    pub left_at : (outs : List (FeedOut (RingItem K O g r))) → ArePaired works outs → (i : ℕ) (work : Work K O g r) → slice_get e.works.items i ≡ Some work → (out : FeedOut (RingItem K O g r)) → slice_get outs i ≡ Some out → IsLeftAt work out
    left_at outs paired i work got out here = let w = was_at i work got in left_by w.fresh.feed out i work (paired i w.fresh out w.first here) w.now

    put_by : (was : FeedIn (RingItem K O g r)) (i : ℕ) (work : Work K O g r) (items : List (RingItem K O g r)) → IsWork script (i + 1) name (put_items is.put) was work → IsAllOf work items → IsPut script name (i + 1) (put_items is.put) items
    put_by was i (Free fresh) items now all = inl (now.1, all)
    put_by was i (Ended None) items now all = absurd (nothing_there all.0 all.1)
    put_by was i (Ended (Some f)) items now all =
        let n = now.1 in
        let same : all_put f ≡ items = ap all_put (one_there f all.0 all.1) ∙ sym all.2 in
        inr (n.0, n.1, n.2, n.3, subst (IsPumpList script (i + 1) n.1) same n.4)

    pub put_at : (i : ℕ) (work : Work K O g r) (items : List (RingItem K O g r)) → slice_get e.works.items i ≡ Some work → IsAllOf work items → IsPut script (g.named keeper) (i + 1) (put_items is.put) items
    put_at i work items got all = let w = was_at i work got in put_by w.fresh.feed i work items w.now all

    -- the answers that it put
    pub all_answers : AreAnswers script (g.named keeper) (g.made keeper) (requests_of (taken_items e.asks)) (put_items is.put)
    all_answers = last.answers

    pub answers_at : (out : FeedOut (RingItem K O g r)) → IsPair answers out → IfSome e.answers (λ f. IsFinishedOf f out)
    answers_at out pair = by_case e.answers is.finished
      where
        by_case : (o : Option (Finished (RingItem K O g r))) → IfSome o (λ f. EndsRingOf answers f × (all_put f ≡ put_items is.put)) → IfSome o (λ f. IsFinishedOf f out)
        by_case None h = tt
        by_case (Some f) h = ended_left answers f out h.0 pair

    pub all_answered : (f : Finished (RingItem K O g r)) → e.answers ≡ Some f → all_put f ≡ put_items is.put
    all_answered f got = (subst (λ (o : Option (Finished (RingItem K O g r))). IfSome o (λ x. EndsRingOf answers x × (all_put x ≡ put_items is.put))) got is.finished).1
