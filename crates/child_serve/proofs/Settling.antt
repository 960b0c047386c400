-- What is left of children is taken, one child after another.
use Rattle.std.proofs.Common.{◌≡◌, ◌≢◌, ◌⊎◌, inl, inr, ℕ, ◌+◌, ◌<◌, List, [], ◌++◌, length, Bool, Option, Some, None, refl, sym, ap, subst, ◌∙◌, arith}
use Rattle.std.specs.Prelude.{slice_get, IfSome, IsTrue, Contains}
use Rattle.std.proofs.lemmas.Bool.{cases_eq}
use Rattle.std.proofs.lemmas.Option.{slice_get_within}
use Rattle.std.specs.declared.io.traits.Read.{Ghosts as ReadGhosts}
use Rattle.std.specs.declared.thread.PromisedHandle.{PromisedHandle}
use Rattle.child_events.specs.declared.event.HallEvent.{HallEvent}
use Rattle.child_hands.specs.declared.keeper.Keeper.{Ghosts}
use Rattle.child_hands.specs.declared.items.RingItem.{RingItem}
use Rattle.feed_rings.specs.Ends.{put_items, taken_items, all_put, SameOut, IsFinishedOf}
use Rattle.feed_rings.specs.declared.feed.Finished.{Finished}
use Rattle.child_events.specs.declared.event.Answer.{Answer}
use Rattle.expect_core.specs.declared.request.Request.{Request}
use Rattle.child_desk.specs.Told.{AreAmong, asked_of_hand, heard_of_hand}
use Rattle.child_desk.specs.Line.{SameRings, HearsNoHand, IsEndOf, IsFrontIn}
use Rattle.feed_rings.specs.declared.feed.FeedOut.{FeedOut}
use Rattle.child_hands.specs.declared.thread.Obeys.{Obeys}
use Rattle.child_hands.specs.declared.work.HandEnd.{HandEnd}
use Rattle.child_hands.specs.declared.work.Work.{Work}
use Rattle.child_hands.specs.declared.work.Work.TheVariants.{Free, Ended}
use Rattle.child_hands.specs.Handed.{IsHandEnd, AreAnswers, requests_of}
use Rattle.child_desk.specs.declared.ends.Ends.{Ends}
use Rattle.child_desk.specs.Heard.{recorded, heard, HearsMore, HearsOwn, HearsAll, TakenIn, Settles}
use Rattle.child_desk.proofs.Places.{one_there}
use Rattle.child_desk.proofs.Hears.{takes_none, hears_at_none, hears_of, more_none}
use Rattle.child_serve.specs.declared.served.Unsettled.{Unsettled}
use Rattle.run_records.specs.Joined.{script_of}
use Rattle.child_serve.specs.Given.{IsGiven, IsPut}
use Rattle.child_serve.specs.Opened.{AreOpened, IsOpened, AreLinked, IsLeftAt, AreLeftIn, IsTakenIn, AreTakenIn, IsClosedIn, AreClosedIn, SameElsewhere, IsSettled, AreSettled, KeepsListed}
use Rattle.child_serve.proofs.Giving.{given_of}
use Rattle.child_serve.proofs.Opening.{there, pair_on, finished_on, left_at, put_at, all_answers, answers_at, all_answered}

-- what a hand answered is known, where one of its first children isn't listed
abbrev pub ClosedTo : ℕ → ℕ → Bool → List Unsettled → Type 0
ClosedTo n script closed unsettled = (index : ℕ) → index < n → (Contains unsettled (record { script = script; child = index + 1 }) → ⊥) → IsTrue closed

pub closed_next : (n script : ℕ) (closed : Bool) (old new : List Unsettled) → KeepsListed old new → ((Contains new (record { script = script; child = n + 1 }) → ⊥) → IsTrue closed) → ClosedTo n script closed old → ClosedTo (n + 1) script closed new
closed_next n script closed old new keeps mine are index lt apart = by_place (cases_eq index n)
  where
    by_place : (index ≡ n) ⊎ (index ≡ n → ⊥) → IsTrue closed
    by_place (inl same) = mine (λ listed. apart (subst (λ (k : ℕ). Contains new (record { script = script; child = k + 1 })) (sym same) listed))
    by_place (inr other) = are index (omega (arith, lt, other)) (λ listed. apart (keeps _ listed))

module _ {K O : Type 0} {g : Ghosts K O} {r : ReadGhosts O} where
  pub settles_same : (at index : ℕ) (ends : List (Ends K O g r)) (es : List HallEvent) → Settles at index ends es ends es
  settles_same at index ends es = record {
    here = λ e got. (e, got, hears_at_none (at + 1) index e.readers e.readers es es (takes_none index e.readers) refl);
    others = λ i other. refl;
    silent = λ s c apart. refl;
    count = refl;
  }

  pub settles_hears : (at index : ℕ) (ends ends' : List (Ends K O g r)) (es es' : List HallEvent) → Settles at index ends es ends' es' → HearsAll ends es ends' es'
  settles_hears at index ends ends' es es' s = record {
    each = λ n e got. by_place n e got (cases_eq n at);
    count = s.count;
  }
    where
      at_place : (e : Ends K O g r) → slice_get ends at ≡ Some e → (e' : Ends K O g r) × (slice_get ends' at ≡ Some e') × HearsOwn (at + 1) e.readers es e'.readers es'
      at_place e got = let p = s.here e got in let h = hears_of (at + 1) index e.readers p.0.readers es es' p.2 in (p.0, p.1, h.own)

      by_place : (n : ℕ) (e : Ends K O g r) → slice_get ends n ≡ Some e → (n ≡ at) ⊎ (n ≡ at → ⊥) → (e' : Ends K O g r) × (slice_get ends' n ≡ Some e') × HearsOwn (n + 1) e.readers es e'.readers es'
      by_place n e got (inl same) =
          subst (λ (k : ℕ). (e' : Ends K O g r) × (slice_get ends' k ≡ Some e') × HearsOwn (k + 1) e.readers es e'.readers es') (sym same) (at_place e (subst (λ (k : ℕ). slice_get ends k ≡ Some e) same got))
      by_place n e got (inr other) = (
        e,
        s.others n other ∙ got,
        record {
          each = λ i out here. (out, here, more_none e.readers.script (n + 1) (i + 1) out es es' (s.silent (n + 1) (i + 1) (λ both. other (let k = both.0 in omega (arith, k)))));
          count = refl;
          number = refl;
        },
      )

  -- what an end at a desk was before
  record Was (at : ℕ) (ends : List (Ends K O g r)) (es : List HallEvent) (e' : Ends K O g r) (es' : List HallEvent) : Type 0 where
    e : Ends K O g r
    here : slice_get ends at ≡ Some e
    own : HearsOwn (at + 1) e.readers es e'.readers es'

  was : (at : ℕ) (ends ends' : List (Ends K O g r)) (es es' : List HallEvent) (e' : Ends K O g r) → HearsAll ends es ends' es' → slice_get ends' at ≡ Some e' → Was at ends es e' es'
  was at ends ends' es es' e' h got =
      let within = slice_get_within ends' at e' got in
      let count = h.count in
      let e = there ends at (omega (arith, within, count)) in
      let p = h.each at e.0 e.1 in
      record { e = e.0; here = e.1; own = subst (λ (x : Ends K O g r). HearsOwn (at + 1) e.0.readers es x.readers es') (one_there p.0 e' (sym p.1 ∙ got)) p.2 }

  -- what an end of a child's ring was before
  record WasOut (script i : ℕ) (e : Ends K O g r) (es : List HallEvent) (out' : FeedOut (RingItem K O g r)) (es' : List HallEvent) : Type 0 where
    out : FeedOut (RingItem K O g r)
    here : slice_get e.readers.outs.items i ≡ Some out
    more : HearsMore e.readers.script script (i + 1) out es out' es'

  was_out : (script i : ℕ) (e e' : Ends K O g r) (es es' : List HallEvent) (out' : FeedOut (RingItem K O g r)) → HearsOwn script e.readers es e'.readers es' → slice_get e'.readers.outs.items i ≡ Some out' → WasOut script i e es out' es'
  was_out script i e e' es es' out' h got =
      let within = slice_get_within e'.readers.outs.items i out' got in
      let count = h.count in
      let out = there e.readers.outs.items i (omega (arith, within, count)) in
      let p = h.each i out.0 out.1 in
      record { out = out.0; here = out.1; more = subst (λ (x : FeedOut (RingItem K O g r)). HearsMore e.readers.script script (i + 1) out.0 es x es') (one_there p.0 out' (sym p.1 ∙ got)) p.2 }

  -- rings stay what they are

  pub linked_still : (hands : List (PromisedHandle (HandEnd K O g r) (Obeys K O g r))) (ends ends' : List (Ends K O g r)) (es es' : List HallEvent) → HearsAll ends es ends' es' → SameRings ends ends' → AreLinked hands ends → AreLinked hands ends'
  linked_still hands ends ends' es es' h rings linked at hand got =
      let was = linked at hand got in
      let now = h.each at was.0 was.1 in
      let ring = rings at was.0 was.1 in (
        now.0,
        now.1,
        record {
          asks = was.2.asks;
          answers = was.2.answers;
          answering = pair_on hand.promise.answers.value was.0.answers now.0.answers was.2.answering (subst (λ (x : Ends K O g r). SameOut was.0.answers x.answers) (one_there ring.0 now.0 (sym ring.1 ∙ now.1)) ring.2);
          count = was.2.count;
          unused = was.2.unused;
          paired = λ i fresh out' free end.
              let o = was_out (at + 1) i was.0 now.0 es es' out' now.2 end in
              pair_on fresh.feed o.out out' (was.2.paired i fresh o.out free o.here) o.more.ring;
        },
      )

  left_same : (out out' : FeedOut (RingItem K O g r)) (work : Work K O g r) → SameOut out out' → IsLeftAt work out → IsLeftAt work out'
  left_same out out' (Free fresh) same left = pair_on fresh.feed out out' left same
  left_same out out' (Ended None) same left = tt
  left_same out out' (Ended (Some f)) same left = finished_on f out out' left same

  pub left_still : (at : ℕ) (works : List (Work K O g r)) (ends ends' : List (Ends K O g r)) (es es' : List HallEvent) → HearsAll ends es ends' es' → AreLeftIn at works ends → AreLeftIn at works ends'
  left_still at works ends ends' es es' h left index work got e' here out' end =
      let w = was at ends ends' es es' e' h here in
      let o = was_out (at + 1) index w.e e' es es' out' w.own end in
      left_same o.out out' work o.more.ring (left index work got w.e w.here o.out o.here)

  -- what was taken of another child stays

  taken_still : (at index i : ℕ) (items : List (RingItem K O g r)) (ends ends' : List (Ends K O g r)) (es es' : List HallEvent) → Settles at index ends es ends' es' → i ≢ index → TakenIn at i items ends → TakenIn at i items ends'
  taken_still at index i items ends ends' es es' s other taken e' got out' end =
      let within = slice_get_within ends' at e' got in
      let count = s.count in
      let e = there ends at (omega (arith, within, count)) in
      let p = s.here e.0 e.1 in
      let one : p.0 ≡ e' = one_there p.0 e' (sym p.1 ∙ got) in
      let same : slice_get e'.readers.outs.items i ≡ slice_get e.0.readers.outs.items i = subst (λ (x : Ends K O g r). slice_get x.readers.outs.items i ≡ slice_get e.0.readers.outs.items i) one (p.2.takes.others i other) in
      taken e.0 e.1 out' (sym same ∙ end)

  pub taken_elsewhere : (at k i : ℕ) (items : List (RingItem K O g r)) (ends ends' : List (Ends K O g r)) → SameElsewhere at ends ends' → k ≢ at → TakenIn k i items ends → TakenIn k i items ends'
  taken_elsewhere at k i items ends ends' same other taken e' got = taken e' (sym (same k other) ∙ got)

  -- the first children of a script
  abbrev pub TakenTo : ℕ → ℕ → ℕ → List (Work K O g r) → List (Ends K O g r) → List Unsettled → Type 0
  TakenTo n at script works ends unsettled = (index : ℕ) (work : Work K O g r) → index < n → slice_get works index ≡ Some work → IsTakenIn at script index work ends unsettled

  pub taken_next : (n at script : ℕ) (works : List (Work K O g r)) (work : Work K O g r) (ends ends' : List (Ends K O g r)) (es es' : List HallEvent) (old new : List Unsettled) →
      slice_get works n ≡ Some work → Settles at n ends es ends' es' → KeepsListed old new → IsTakenIn at script n work ends' new → TakenTo n at script works ends old → TakenTo (n + 1) at script works ends' new
  taken_next n at script works work ends ends' es es' old new here s keeps mine taken index x lt got = by_place (cases_eq index n)
    where
      by_place : (index ≡ n) ⊎ (index ≡ n → ⊥) → IsTakenIn at script index x ends' new
      by_place (inl same) =
          let one : work ≡ x = one_there work x (sym here ∙ subst (λ (k : ℕ). slice_get works k ≡ Some x) same got) in
          subst (λ (k : ℕ). IsTakenIn at script k x ends' new) (sym same) (subst (λ (y : Work K O g r). IsTakenIn at script n y ends' new) one mine)
      by_place (inr other) = λ apart.
          let t = taken index x (omega (arith, lt, other)) got (λ listed. apart (keeps _ listed)) in
          (t.0, t.1, taken_still at n index t.0 ends ends' es es' s other t.2)

  pub taken_all : (n at script : ℕ) (works : List (Work K O g r)) (ends : List (Ends K O g r)) (unsettled : List Unsettled) → n ≡ length works → TakenTo n at script works ends unsettled → AreTakenIn at script works ends unsettled
  taken_all n at script works ends unsettled all taken index work got = let within = slice_get_within works index work got in taken index work (omega (arith, all, within)) got

  -- the hands of the first scripts
  abbrev pub SettledTo : ℕ → ℕ → ℕ → List (PromisedHandle (HandEnd K O g r) (Obeys K O g r)) → List (Ends K O g r) → List Unsettled → Type 0
  SettledTo count n w hands ends unsettled = (at : ℕ) (hand : PromisedHandle (HandEnd K O g r) (Obeys K O g r)) → at < count → slice_get hands at ≡ Some hand → IsSettled (script_of n w (at + 1)) at hand ends unsettled

  pub left_of : (at : ℕ) (hand : PromisedHandle (HandEnd K O g r) (Obeys K O g r)) (e : HandEnd K O g r) (hands : List (PromisedHandle (HandEnd K O g r) (Obeys K O g r))) (ends : List (Ends K O g r)) → AreLinked hands ends → slice_get hands at ≡ Some hand →
      IsHandEnd hand.promise.script hand.promise.keeper.value hand.promise.asks.value hand.promise.answers.value hand.promise.works.value.items e → AreLeftIn at e.works.items ends
  left_of at hand e hands ends linked mine is index work got x here out end =
      let l = linked at hand mine in
      let one : x ≡ l.0 = one_there x l.0 (sym here ∙ l.1) in
      left_at hand.promise.script hand.promise.keeper.value hand.promise.asks.value hand.promise.answers.value hand.promise.works.value.items e l.2.asks l.2.answers l.2.unused is l.0.readers.outs.items l.2.paired index work got out
      (ap (λ (y : Ends K O g r). slice_get y.readers.outs.items index) (sym one) ∙ end)

  -- what was heard of a hand stays

  front_still : (at : ℕ) (items : List (RingItem K O g r)) (ends ends' : List (Ends K O g r)) → HearsNoHand ends ends' → IsFrontIn at items ends → IsFrontIn at items ends'
  front_still at items ends ends' h front e' got =
      let within = slice_get_within ends' at e' got in
      let count = h.count in
      let e = there ends at (omega (arith, within, count)) in
      let p = h.each at e.0 e.1 in
      let same = one_there p.0 e' (sym p.1 ∙ got) in
      let was = front e.0 e.1 in
      (was.0, ap (λ (xs : List (RingItem K O g r)). xs ++ was.0) (subst (λ (x : Ends K O g r). taken_items x.answers ≡ taken_items e.0.answers) same p.3) ∙ was.1)

  pub closed_still : (at : ℕ) (answers : Option (Finished (RingItem K O g r))) (ends ends' : List (Ends K O g r)) → HearsNoHand ends ends' → IsClosedIn at answers ends → IsClosedIn at answers ends'
  closed_still at answers ends ends' h closed = (closed.0, closed.1, front_still at (all_put closed.0) ends ends' h closed.2)

  pub end_of : (at : ℕ) (hand : PromisedHandle (HandEnd K O g r) (Obeys K O g r)) (e : HandEnd K O g r) (hands : List (PromisedHandle (HandEnd K O g r) (Obeys K O g r))) (ends : List (Ends K O g r)) → AreLinked hands ends → slice_get hands at ≡ Some hand →
      IsHandEnd hand.promise.script hand.promise.keeper.value hand.promise.asks.value hand.promise.answers.value hand.promise.works.value.items e → IfSome e.answers (λ f. IsEndOf at f ends)
  end_of at hand e hands ends linked mine is =
      let l = linked at hand mine in
      by_case l.0 l.1 e.answers
      (answers_at hand.promise.script hand.promise.keeper.value hand.promise.asks.value hand.promise.answers.value hand.promise.works.value.items e l.2.asks l.2.answers l.2.unused is l.0.answers l.2.answering)
    where
      by_case : (x : Ends K O g r) → slice_get ends at ≡ Some x → (o : Option (Finished (RingItem K O g r))) → IfSome o (λ f. IsFinishedOf f x.answers) → IfSome o (λ f. IsEndOf at f ends)
      by_case x here None h = tt
      by_case x here (Some f) h = λ y got. subst (λ (z : Ends K O g r). IsFinishedOf f z.answers) (one_there x y (sym here ∙ got)) h

  pub settled_of : (at script : ℕ) (hand : PromisedHandle (HandEnd K O g r) (Obeys K O g r)) (e : HandEnd K O g r) (hands : List (PromisedHandle (HandEnd K O g r) (Obeys K O g r))) (first ends : List (Ends K O g r)) (unsettled : List Unsettled) → AreLinked hands first → slice_get hands at ≡ Some hand →
      IsHandEnd hand.promise.script hand.promise.keeper.value hand.promise.asks.value hand.promise.answers.value hand.promise.works.value.items e → AreTakenIn at script e.works.items ends unsettled →
      AreClosedIn at script e.answers (length e.works.items) ends unsettled → IsSettled script at hand ends unsettled
  settled_of at script hand e hands first ends unsettled linked mine is taken closed index lt apart =
      let l = (linked at hand mine).2 in
      let size = is.size in
      let count = l.count in
      let work = there e.works.items index (omega (arith, lt, size, count)) in
      let t = taken index work.0 work.1 apart in
      let c = closed index (omega (arith, lt, size, count)) apart in
      let all = all_answered hand.promise.script hand.promise.keeper.value hand.promise.asks.value hand.promise.answers.value hand.promise.works.value.items e l.asks l.answers l.unused is c.0 c.1 in (
        record {
          put = put_items is.put;
          requests = requests_of (taken_items e.asks);
          answers = all_answers hand.promise.script hand.promise.keeper.value hand.promise.asks.value hand.promise.answers.value hand.promise.works.value.items e l.asks l.answers l.unused is;
          front = subst (λ (xs : List (RingItem K O g r)). IsFrontIn at xs ends) all c.2;
        },
        t.0,
        put_at hand.promise.script hand.promise.keeper.value hand.promise.asks.value hand.promise.answers.value hand.promise.works.value.items e l.asks l.answers l.unused is index work.0 t.0 work.1 t.1,
        t.2,
      )

  pub settled_next : (at n w : ℕ) (hand : PromisedHandle (HandEnd K O g r) (Obeys K O g r)) (hands : List (PromisedHandle (HandEnd K O g r) (Obeys K O g r))) (ends ends' : List (Ends K O g r)) (old new : List Unsettled) → slice_get hands at ≡ Some hand →
      SameElsewhere at ends ends' → HearsNoHand ends ends' → KeepsListed old new → IsSettled (script_of n w (at + 1)) at hand ends' new → SettledTo at n w hands ends old → SettledTo (at + 1) n w hands ends' new
  settled_next at n w hand hands ends ends' old new here same silent keeps mine settled k x lt got = by_place (cases_eq k at)
    where
      by_place : (k ≡ at) ⊎ (k ≡ at → ⊥) → IsSettled (script_of n w (k + 1)) k x ends' new
      by_place (inl one) =
          let is : hand ≡ x = one_there hand x (sym here ∙ subst (λ (i : ℕ). slice_get hands i ≡ Some x) one got) in
          subst (λ (i : ℕ). IsSettled (script_of n w (i + 1)) i x ends' new) (sym one) (subst (λ (y : PromisedHandle (HandEnd K O g r) (Obeys K O g r)). IsSettled (script_of n w (at + 1)) at y ends' new) is mine)
      by_place (inr other) = λ index within apart.
          let t = settled k x (omega (arith, lt, other)) got index within (λ listed. apart (keeps _ listed)) in
          let a = t.0 in
          (record { put = a.put; requests = a.requests; answers = a.answers; front = front_still k a.put ends ends' silent a.front }, t.1, t.2, taken_elsewhere at k index t.1 ends ends' same other t.3)

  pub settled_all : (count n w : ℕ) (hands : List (PromisedHandle (HandEnd K O g r) (Obeys K O g r))) (ends : List (Ends K O g r)) (unsettled : List Unsettled) → count ≡ length hands → SettledTo count n w hands ends unsettled → AreSettled n w hands ends unsettled
  settled_all count n w hands ends unsettled all settled at hand got = let within = slice_get_within hands at hand got in settled at hand (omega (arith, all, within)) got

  -- hands of all scripts, and what the record has of a child that is settled

  pub linked_all : (n w : ℕ) (keepers : List K) (ends : List (Ends K O g r)) (hands : List (PromisedHandle (HandEnd K O g r) (Obeys K O g r))) → AreOpened n w keepers ends hands → AreLinked hands ends
  linked_all n w keepers ends hands opened at hand got =
      let within = slice_get_within hands at hand got in
      let count = opened.0.count in
      let all = opened.1 in
      let keeper = there keepers at (omega (arith, within, all)) in
      let e = there ends at (omega (arith, within, count)) in
      (e.0, e.1, (opened.0.each at keeper.0 e.0 hand keeper.1 e.1 got).linked)

  given_at : (at script index : ℕ) (keeper : K) (first last : List (Ends K O g r)) (es es' : List HallEvent) (hand : PromisedHandle (HandEnd K O g r) (Obeys K O g r)) (e e' : Ends K O g r) (unsettled : List Unsettled) (xs : List Answer) (qs : List Request) →
      es ≡ [] → slice_get first at ≡ Some e → slice_get last at ≡ Some e' → IsOpened script keeper e hand → HearsAll first es last es' → IsSettled script at hand last unsettled → AreAmong (heard_of_hand e'.answers) (g.named keeper) (g.made keeper) xs qs →
      index < 16 → (Contains unsettled (record { script = script; child = index + 1 }) → ⊥) → IsGiven g.told g.gives (g.named keeper) (g.made keeper) (index + 1) xs qs (recorded (at + 1) (index + 1) es')
  given_at at script index keeper first last es es' hand e e' unsettled xs qs empty here there_now opened h settled among lt apart =
      let t = settled index lt apart in
      let a = t.0 in
      let p = h.each at e here in
      let outs = opened.outs in
      let out = there e.readers.outs.items index (omega (arith, lt, outs)) in
      let q = p.2.each index out.0 out.1 in
      let m = q.2 in
      let items : m.more ≡ t.1 = sym (m.taken ∙ ap (λ (l : List (RingItem K O g r)). l ++ m.more) (opened.untaken index out.0 out.1)) ∙ t.3 p.0 p.1 q.0 q.1 in
      let said : recorded (at + 1) (index + 1) es' ≡ heard script (index + 1) t.1 =
      m.entered ∙ ap (λ (l : List HallEvent). recorded (at + 1) (index + 1) l ++ heard e.readers.script (index + 1) m.more) empty ∙ ap (λ (k : ℕ). heard k (index + 1) m.more) opened.hears ∙ ap (heard script (index + 1)) items in
      let put : IsPut script (g.named keeper) (index + 1) a.put t.1 =
      subst (λ (k : K). IsPut script (g.named k) (index + 1) a.put t.1) opened.kept
      (subst (λ (k : ℕ). IsPut k (g.named hand.promise.keeper.value) (index + 1) a.put t.1) opened.puts t.2) in
      let answers : AreAnswers script (g.named keeper) (g.made keeper) a.requests a.put =
      subst (λ (k : K). AreAnswers script (g.named k) (g.made k) a.requests a.put) opened.kept
      (subst (λ (k : ℕ). AreAnswers k (g.named hand.promise.keeper.value) (g.made hand.promise.keeper.value) a.requests a.put) opened.puts a.answers) in
      let front = a.front e' there_now in
      subst (IsGiven g.told g.gives (g.named keeper) (g.made keeper) (index + 1) xs qs) (sym said)
      (given_of script (g.named keeper) (g.made keeper) (index + 1) a.requests a.put (taken_items e'.answers) front.0 t.1 xs qs answers front.1 among put)

  pub given_all : (n w : ℕ) (keepers : List K) (first last : List (Ends K O g r)) (es es' : List HallEvent) (hands : List (PromisedHandle (HandEnd K O g r) (Obeys K O g r))) (unsettled : List Unsettled) →
      es ≡ [] → AreOpened n w keepers first hands → HearsAll first es last es' → AreSettled n w hands last unsettled →
      (i index : ℕ) (keeper : K) (e' : Ends K O g r) (xs : List Answer) (qs : List Request) → slice_get keepers i ≡ Some keeper → slice_get last i ≡ Some e' → AreAmong (heard_of_hand e'.answers) (g.named keeper) (g.made keeper) xs qs →
      index < 16 → (Contains unsettled (record { script = script_of n w (i + 1); child = index + 1 }) → ⊥) → IsGiven g.told g.gives (g.named keeper) (g.made keeper) (index + 1) xs qs (recorded (i + 1) (index + 1) es')
  given_all n w keepers first last es es' hands unsettled empty opened h settled i index keeper e' xs qs got now among lt apart =
      let within = slice_get_within keepers i keeper got in
      let count = opened.0.count in
      let all = opened.1 in
      let hand = there hands i (omega (arith, within, all)) in
      let e = there first i (omega (arith, within, all, count)) in
      given_at i (script_of n w (i + 1)) index keeper first last es es' hand.0 e.0 e' unsettled xs qs empty e.1 now (opened.0.each i keeper e.0 hand.0 got e.1 hand.1) h (settled i hand.0 hand.1) among lt apart

  -- nothing was heard of hands at first
  pub unheard_all : (n w : ℕ) (keepers : List K) (ends : List (Ends K O g r)) (hands : List (PromisedHandle (HandEnd K O g r) (Obeys K O g r))) → AreOpened n w keepers ends hands →
      (i : ℕ) (keeper : K) → slice_get keepers i ≡ Some keeper → (e : Ends K O g r) × (slice_get ends i ≡ Some e) × (taken_items e.answers ≡ []) × (asked_of_hand e ≡ [])
  unheard_all n w keepers ends hands opened i keeper got =
      let within = slice_get_within keepers i keeper got in
      let count = opened.0.count in
      let all = opened.1 in
      let hand = there hands i (omega (arith, within, all)) in
      let e = there ends i (omega (arith, within, all, count)) in
      let is = opened.0.each i keeper e.0 hand.0 got e.1 hand.1 in
      (e.0, e.1, is.unheard, is.unasked)
