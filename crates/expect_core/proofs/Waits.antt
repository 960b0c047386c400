-- The items that a wait takes are the first ones in time.
use Rattle.std.proofs.Common.{◌≡◌, ℕ, zero, suc, ◌<◌, List, [], ◌∷◌, Bool, true, false, Option, Some, None, ◌⊎◌, inl, inr, refl, sym, ap, subst, ◌∙◌, arith}
use Rattle.std.specs.Prelude.{if◌then◌else◌}
use Rattle.child_events.specs.declared.event.Item.{Item}
use Rattle.child_events.specs.declared.event.Item.TheVariants as item
use Rattle.child_events.specs.Queue.{Queued}
use Rattle.child_events.specs.Next.{IsEarliest, IsNext, next_of}
use Rattle.child_events.proofs.Nexts.{next_is}
use Rattle.exp_match.specs.declared.chosen.Chosen.{Chosen}
use Rattle.exp_match.specs.declared.chosen.Chosen.TheVariants as chosen
use Rattle.expect_core.specs.declared.lanes.Lane.{Lane}
use Rattle.expect_core.specs.declared.plan.Plan.{Plan}
use Rattle.expect_core.specs.declared.phase.Heard.{Heard}
use Rattle.expect_core.specs.declared.phase.Heard.TheVariants.{Match, Full, Ended, Failed}
use Rattle.expect_core.specs.declared.own.Own.{Own}
use Rattle.expect_core.specs.Lanes.{lane_of, with_items}
use Rattle.expect_core.specs.Owned.{received, at_moment, trimmed}
use Rattle.expect_core.specs.Heard.{Watch, watched, place_in, in_time, lapse, Listened, chosen_of, decided, tested, heard, heads, taken, on_next, listen_for, item_count}
use Rattle.expect_core.specs.Waits.{IsTaken, ChoosesNone, IsChosen, Chooses, Decides, Comes, TakesInOrder}
use Rattle.expect_core.proofs.Listening.{fewer}

-- the earliest is one alone

below : (hs : List (Option ℕ)) (i j m n : ℕ) → IsEarliest hs i m → IsEarliest hs j n → i < j → m < n → ⊥
below hs i j m n first second lt early = let le = second.none_earlier i m first.here in omega (arith, le, early)

same_moment : (hs : List (Option ℕ)) (i j m n : ℕ) → IsEarliest hs i m → IsEarliest hs j n → m ≡ n
same_moment hs i j m n first second =
    let le = first.none_earlier j n second.here in
    let ge = second.none_earlier i m first.here in
    omega (arith, le, ge)

not_before : (hs : List (Option ℕ)) (i j m n : ℕ) → IsEarliest hs i m → IsEarliest hs j n → i < j → ⊥
not_before hs i j m n first second lt =
    let same = same_moment hs i j m n first second in
    let less = second.first i m lt first.here in
    omega (arith, same, less)

three : (i j : ℕ) → (i ≡ j) ⊎ ((i < j) ⊎ (j < i))
three zero zero = inl refl
three zero (suc j) = inr (inl (omega arith))
three (suc i) zero = inr (inr (omega arith))
three (suc i) (suc j) = elim (three i j) [ inl same ↦ inl (ap suc same) | inr apart ↦ inr (elim apart [ inl lt ↦ inl (omega (arith, lt)) | inr gt ↦ inr (omega (arith, gt)) ]) ]

one_earliest : (hs : List (Option ℕ)) (i j m n : ℕ) → IsEarliest hs i m → IsEarliest hs j n → i ≡ j
one_earliest hs i j m n first second =
    elim (three i j) [
      | inl same ↦ same
      | inr apart ↦ absurd (elim apart [ inl lt ↦ not_before hs i j m n first second lt | inr gt ↦ not_before hs j i n m second first gt ])
    ]

same_first : (q r : Queued) (qs rs items : List Queued) → items ≡ q ∷ qs → items ≡ r ∷ rs → q ≡ r
same_first q r qs rs items e f = cc

no_first : (q : Queued) (qs items : List Queued) → items ≡ [] → items ≡ q ∷ qs → ⊥
no_first q qs items e f = cc

-- what the tests come to, whatever follows them
abbrev Tests : Plan → List Watch → List Lane → Own → (Own → Listened) → Type 0
Tests p ws lanes o k =
    ((v : Heard) × (new : Own) × Chooses p ws o v new × (tested p ws lanes o k ≡ (v, lanes, new)))
    ⊎ ((new : Own) × ChoosesNone p ws o new × (tested p ws lanes o k ≡ k new))

module _ (p : Plan) (lanes : List Lane) (k : Own → Listened) where
  abbrev rest_of : List Watch → Own → Listened
  rest_of ws o = tested p ws lanes o k

  tests_by : (w : Watch) (ws : List Watch) (o : Own) → Tests p ws lanes (trimmed w.0 o) k → (c : Chosen) → chosen_of p w o ≡ c → Tests p (w ∷ ws) lanes o k
  tests_by w ws o rest (chosen.Pattern n spans) e =
      inl (Match w.0 n spans, o, inl (subst (λ (c : Chosen). IsChosen w.0 c (Match w.0 n spans)) (sym e) refl, refl), ap (λ (c : Chosen). decided w.0 c lanes o (rest_of ws)) e)
  tests_by w ws o rest chosen.Full e =
      inl (Full w.0, o, inl (subst (λ (c : Chosen). IsChosen w.0 c (Full w.0)) (sym e) refl, refl), ap (λ (c : Chosen). decided w.0 c lanes o (rest_of ws)) e)
  tests_by w ws o rest chosen.None e =
      let on : tested p (w ∷ ws) lanes o k ≡ tested p ws lanes (trimmed w.0 o) k = ap (λ (c : Chosen). decided w.0 c lanes o (rest_of ws)) e in
      elim rest [
        | inl chose ↦ inl (chose.0, chose.1, inr (e, chose.2), on ∙ chose.3)
        | inr went ↦ inr (went.0, (e, went.1), on ∙ went.2)
      ]

  tests : (ws : List Watch) (o : Own) → Tests p ws lanes o k
  tests [] o = inr (o, refl, refl)
  tests (w ∷ ws) o = tests_by w ws o (tests ws (trimmed w.0 o)) (chosen_of p w o) refl

module _ (limit : Option ℕ) (h : ℕ) (p : Plan) where
  abbrev ws : List Watch
  ws = watched p

  abbrev IsWait : List Lane → Own → Listened → Type 0
  IsWait lanes o r = (xs : List (ℕ × List ℕ)) × Comes limit h p xs lanes o r

  -- nothing is taken where none is next, or the next one isn't in time
  none_next : (lanes : List Lane) → next_of (heads ws lanes) h ≡ None → (i : ℕ) (q : Queued) (qs : List Queued) → ¬ IsTaken limit h p lanes i q qs
  none_next lanes none i q qs is =
      let next = is.next in
      subst (IsNext (heads ws lanes) h) none (next_is (heads ws lanes) h) is.side next.0 next.1 next.2

  same_side : (lanes : List Lane) (j : ℕ) → IsNext (heads ws lanes) h (Some j) → (i : ℕ) (q : Queued) (qs : List Queued) (is : IsTaken limit h p lanes i q qs) → place_in ws j ≡ i
  same_side lanes j next i q qs is = ap (place_in ws) (one_earliest (heads ws lanes) j is.side next.0 is.next.0 next.1 is.next.1) ∙ is.here

  none_there : (lanes : List Lane) (j : ℕ) → IsNext (heads ws lanes) h (Some j) → (lane_of (place_in ws j) lanes).items ≡ [] → (i : ℕ) (q : Queued) (qs : List Queued) → ¬ IsTaken limit h p lanes i q qs
  none_there lanes j next none i q qs is =
      let same = same_side lanes j next i q qs is in
      no_first q qs (lane_of (place_in ws j) lanes).items none (ap (λ (i : ℕ). (lane_of i lanes).items) same ∙ is.first)

  none_in_time : (lanes : List Lane) (j : ℕ) → IsNext (heads ws lanes) h (Some j) → (r : Queued) (rs : List Queued) → (lane_of (place_in ws j) lanes).items ≡ r ∷ rs → in_time limit p.deadline r.moment ≡ false → (i : ℕ) (q : Queued) (qs : List Queued) → ¬ IsTaken limit h p lanes i q qs
  none_in_time lanes j next r rs there late i q qs is =
      let same = same_side lanes j next i q qs is in
      let one = same_first r q rs qs (lane_of (place_in ws j) lanes).items there (ap (λ (i : ℕ). (lane_of i lanes).items) same ∙ is.first) in
      let clash : false ≡ true = sym late ∙ ap (λ (q : Queued). in_time limit p.deadline q.moment) one ∙ is.on_time in
      cc

  module _ (lanes : List Lane) (o : Own) (k : List Lane → Own → Listened) (i : ℕ) (q : Queued) (qs : List Queued) (is : IsTaken limit h p lanes i q qs) (rest : (new : Own) → IsWait (with_items i qs lanes) new (k (with_items i qs lanes) new)) where
    abbrev left : List Lane
    left = with_items i qs lanes

    abbrev here : Own
    here = at_moment q.moment o

    ends : (it : Item) → q.item ≡ it → (v : Heard) (new : Own) → Decides p i it here v new → IsWait lanes o (v, left, new)
    ends it e v new decides = ([], inr (i, q, qs, is, refl, subst (λ (it : Item). Decides p i it here v new) (sym e) decides))

    by_item : (it : Item) → q.item ≡ it → IsWait lanes o (heard p i it left here (k left))
    by_item (item.Out piece) e =
        elim (tests p left (k left) ws (received i piece here)) [
          | inl chose ↦ subst (IsWait lanes o) (sym chose.3) (ends (item.Out piece) e chose.0 chose.1 chose.2)
          | inr went ↦ subst (IsWait lanes o) (sym went.2) (let more = rest went.0 in ((i, piece) ∷ more.0, (q, qs, went.0, is, e, went.1, more.1)))
        ]
    by_item item.Eof e = ends item.Eof e (Ended i) here (refl, refl)
    by_item (item.ReadFail c) e = ends (item.ReadFail c) e (Failed i c) here (refl, refl)

  module _ (lanes : List Lane) (o : Own) (k : List Lane → Own → Listened) (rest : (i : ℕ) (q : Queued) (qs : List Queued) → (lane_of i lanes).items ≡ q ∷ qs → (new : Own) → IsWait (with_items i qs lanes) new (k (with_items i qs lanes) new)) where
    time_decides : ((i : ℕ) (q : Queued) (qs : List Queued) → ¬ IsTaken limit h p lanes i q qs) → IsWait lanes o (lapse limit h p.deadline, lanes, o)
    time_decides none = ([], inl (none, refl))

    by_time : (j : ℕ) → IsNext (heads ws lanes) h (Some j) → (q : Queued) (qs : List Queued) → (lane_of (place_in ws j) lanes).items ≡ q ∷ qs → (b : Bool) → in_time limit p.deadline q.moment ≡ b →
        IsWait lanes o (if b then heard p (place_in ws j) q.item (with_items (place_in ws j) qs lanes) (at_moment q.moment o) (k (with_items (place_in ws j) qs lanes)) else (lapse limit h p.deadline, lanes, o))
    by_time j next q qs there true e =
        let i = place_in ws j in
        by_item lanes o k i q qs (record { side = j; here = refl; next = next; first = there; on_time = e }) (rest i q qs there) q.item refl
    by_time j next q qs there false e = time_decides (none_in_time lanes j next q qs there e)

    by_items : (j : ℕ) → IsNext (heads ws lanes) h (Some j) → (qs : List Queued) → (lane_of (place_in ws j) lanes).items ≡ qs → IsWait lanes o (taken limit h p (place_in ws j) qs lanes o k)
    by_items j next [] there = time_decides (none_there lanes j next there)
    by_items j next (q ∷ qs) there = by_time j next q qs there (in_time limit p.deadline q.moment) refl

    by_next : (x : Option ℕ) → next_of (heads ws lanes) h ≡ x → IsWait lanes o (on_next limit h p x lanes o k)
    by_next None e = time_decides (none_next lanes e)
    by_next (Some j) e = by_items j (subst (IsNext (heads ws lanes) h) e (next_is (heads ws lanes) h)) (lane_of (place_in ws j) lanes).items refl

  waits_for : (n : ℕ) (lanes : List Lane) (o : Own) → item_count lanes < n → IsWait lanes o (listen_for n limit h p lanes o)
  waits_for zero lanes o lt = absurd (let none : item_count lanes < 0 = lt in omega arith)
  waits_for (suc n) lanes o lt =
      by_next lanes o (listen_for n limit h p)
      (λ i q qs there new. let less = fewer i q qs lanes there in waits_for n (with_items i qs lanes) new (omega (arith, less, lt)))
      (next_of (heads ws lanes) h) refl

pub takes_in_order : TakesInOrder
takes_in_order limit h p lanes o = waits_for limit h p (suc (item_count lanes)) lanes o (omega arith)
