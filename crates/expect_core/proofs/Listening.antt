-- A wait for patterns of several children is the wait before an event more, which then goes on.
use Rattle.std.proofs.Common.{◌≡◌, ◌≢◌, ℕ, zero, suc, ◌≤◌, ◌<◌, List, [], ◌∷◌, ◌++◌, length, Bool, true, false, Option, Some, None, inl, inr, refl, sym, ap, subst, ◌∙◌, arith}
use Rattle.std.specs.Prelude.{if◌then◌else◌, slice_get}
use Rattle.child_events.specs.declared.event.Item.{Item}
use Rattle.child_events.specs.declared.event.Item.TheVariants as item
use Rattle.child_events.specs.declared.event.Event.{Event}
use Rattle.child_events.specs.Queue.{Queued}
use Rattle.child_events.specs.Next.{next_of, Arrives, AllArrive}
use Rattle.child_events.proofs.Nexts.{stays_next, comes_later, next_there}
use Rattle.exp_match.specs.declared.chosen.Chosen.{Chosen}
use Rattle.exp_match.specs.declared.chosen.Chosen.TheVariants as chosen
use Rattle.expect_core.specs.declared.lanes.Lane.{Lane}
use Rattle.expect_core.specs.declared.plan.Plan.{Plan}
use Rattle.expect_core.specs.declared.phase.Heard.{Heard}
use Rattle.expect_core.specs.declared.phase.Heard.TheVariants.{NotYet}
use Rattle.expect_core.specs.declared.own.Own.{Own}
use Rattle.expect_core.specs.Lanes.{lane_of, with_items, arrived}
use Rattle.expect_core.specs.Owned.{received, at_moment, trimmed}
use Rattle.expect_core.specs.Heard.{in_time, Watch, watched, place_in, lapse, Listened, chosen_of, decided, tested, heard, head_of, heads, taken, on_next, listen_for, item_count, listen, look, TakesEach}
use Rattle.expect_core.proofs.Growing.{IsLater, MoreItems, more_items}
use Rattle.expect_core.proofs.Times.{lasts}

-- what it comes to with an event more, which came at this horizon: where nothing had come in time, it goes on
abbrev pub on_more : Event → Option ℕ → ℕ → Plan → Listened → Listened
on_more e limit horizon p (NotYet, lanes, o) = listen limit horizon p (arrived e horizon lanes) o
on_more e limit horizon p (v, lanes, o) = (v, arrived e horizon lanes, o)

-- an item less
pub fewer : (i : ℕ) (q : Queued) (qs : List Queued) (lanes : List Lane) → (lane_of i lanes).items ≡ q ∷ qs → item_count lanes ≡ suc (item_count (with_items i qs lanes))
fewer i q qs [] e = absurd (let no : [] ≡ q ∷ qs = e in cc)
fewer zero q qs (l ∷ ls) e = let long : length l.items ≡ suc (length qs) = ap length e in omega (arith, long)
fewer (suc i) q qs (l ∷ ls) e = let rest = fewer i q qs ls e in omega (arith, rest)

-- more turns than there are items change nothing

module _ (limit : Option ℕ) (h : ℕ) (p : Plan) where
  decided_same : (i : ℕ) (c : Chosen) (lanes : List Lane) (o : Own) (k k' : Own → Listened) → ((o : Own) → k o ≡ k' o) → decided i c lanes o k ≡ decided i c lanes o k'
  decided_same i (chosen.Pattern n spans) lanes o k k' same = refl
  decided_same i chosen.Full lanes o k k' same = refl
  decided_same i chosen.None lanes o k k' same = same (trimmed i o)

  tested_same : (ws : List Watch) (lanes : List Lane) (o : Own) (k k' : Own → Listened) → ((o : Own) → k o ≡ k' o) → tested p ws lanes o k ≡ tested p ws lanes o k'
  tested_same [] lanes o k k' same = same o
  tested_same (w ∷ ws) lanes o k k' same =
      decided_same w.0 (chosen_of p w o) lanes o (λ o. tested p ws lanes o k) (λ o. tested p ws lanes o k') (λ o. tested_same ws lanes o k k' same)

  heard_same : (i : ℕ) (it : Item) (lanes : List Lane) (o : Own) (k k' : Own → Listened) → ((o : Own) → k o ≡ k' o) → heard p i it lanes o k ≡ heard p i it lanes o k'
  heard_same i (item.Out piece) lanes o k k' same = tested_same (watched p) lanes (received i piece o) k k' same
  heard_same i item.Eof lanes o k k' same = refl
  heard_same i (item.ReadFail c) lanes o k k' same = refl

  module _ (n n' : ℕ) (lanes : List Lane) (o : Own) (rest : (lanes : List Lane) (o : Own) → item_count lanes < n → item_count lanes < n' → listen_for n limit h p lanes o ≡ listen_for n' limit h p lanes o) (below : item_count lanes ≤ n) (below' : item_count lanes ≤ n') where
    enough_taken : (i : ℕ) (qs : List Queued) → (lane_of i lanes).items ≡ qs → taken limit h p i qs lanes o (listen_for n limit h p) ≡ taken limit h p i qs lanes o (listen_for n' limit h p)
    enough_taken i [] e = refl
    enough_taken i (q ∷ qs) e =
        let less = fewer i q qs lanes e in
        ap (λ (x : Listened). if in_time limit p.deadline q.moment then x else (let r : Listened = (lapse limit h p.deadline, lanes, o) in r))
        (heard_same i q.item (with_items i qs lanes) (at_moment q.moment o) (listen_for n limit h p (with_items i qs lanes)) (listen_for n' limit h p (with_items i qs lanes))
        (λ o. rest (with_items i qs lanes) o (omega (arith, less, below)) (omega (arith, less, below'))))

    enough_next : (x : Option ℕ) → on_next limit h p x lanes o (listen_for n limit h p) ≡ on_next limit h p x lanes o (listen_for n' limit h p)
    enough_next None = refl
    enough_next (Some m) = enough_taken (place_in (watched p) m) (lane_of (place_in (watched p) m) lanes).items refl

  pub enough : (n n' : ℕ) (lanes : List Lane) (o : Own) → item_count lanes < n → item_count lanes < n' → listen_for n limit h p lanes o ≡ listen_for n' limit h p lanes o
  enough zero n' lanes o lt lt' = absurd (let no : item_count lanes < 0 = lt in omega arith)
  enough (suc n) zero lanes o lt lt' = absurd (let no : item_count lanes < 0 = lt' in omega arith)
  enough (suc n) (suc n') lanes o lt lt' =
      enough_next n n' lanes o (λ lanes o lt lt'. enough n n' lanes o lt lt') (omega (arith, lt)) (omega (arith, lt')) (next_of (heads (watched p) lanes) h)

-- the first items with an event more

head_arrives : (h h' : ℕ) → h ≤ h' → (olds more : List Queued) → IsLater h' more → Arrives h (head_of olds) (head_of (olds ++ more))
head_arrives h h' le [] [] later = tt
head_arrives h h' le [] (q ∷ qs) later = omega (arith, le, later)
head_arrives h h' le (q ∷ qs) more later = refl

head_there : (ws : List Watch) (lanes : List Lane) (n m : ℕ) → slice_get (heads ws lanes) n ≡ Some (Some m) → head_of (lane_of (place_in ws n) lanes).items ≡ Some m
head_there [] lanes zero m e = absurd (let no : None ≡ Some (Some m) = e in cc)
head_there [] lanes (suc n) m e = absurd (let no : None ≡ Some (Some m) = e in cc)
head_there (w ∷ ws) lanes zero m e = let there : Some (head_of (lane_of w.0 lanes).items) ≡ Some (Some m) = e in cc
head_there (w ∷ ws) lanes (suc n) m e = head_there ws lanes n m e

-- there is no first item, or it is not in time
abbrev IsOut : Option ℕ → Plan → List Queued → Type 0
IsOut limit p [] = Unit {0}
IsOut limit p (q ∷ qs) = in_time limit p.deadline q.moment ≡ false

module _ (e : Event) (limit : Option ℕ) (h h' : ℕ) (p : Plan) (le : h ≤ h') where
  abbrev grow : List Lane → List Lane
  grow lanes = arrived e h' lanes

  abbrev goes_on : Listened → Listened
  goes_on r = on_more e limit h' p r

  arrives : (ws : List Watch) (lanes : List Lane) → AllArrive h (heads ws lanes) (heads ws (grow lanes))
  arrives [] lanes = tt
  arrives (w ∷ ws) lanes =
      let more = more_items w.0 h' lanes e in
      (subst (λ (qs : List Queued). Arrives h (head_of (lane_of w.0 lanes).items) (head_of qs)) (sym more.read) (head_arrives h h' le (lane_of w.0 lanes).items more.more more.later), arrives ws lanes)

  -- nothing came in time, whatever comes
  over_for : (v : Heard) → v ≢ NotYet → lapse limit h p.deadline ≡ v → lapse limit h' p.deadline ≡ v
  over_for v differs at = elim (lasts limit h p.deadline h' le) [ inl n ↦ absurd (differs (sym at ∙ n)) | inr y ↦ y.0 ∙ at ]

  none_comes : (n : ℕ) → h ≤ n → (v : Heard) → v ≢ NotYet → lapse limit h p.deadline ≡ v → in_time limit p.deadline n ≡ false
  none_comes n late v differs at = elim (lasts limit h p.deadline n late) [ inl n ↦ absurd (differs (sym at ∙ n)) | inr y ↦ y.1 ]

  -- nothing is taken
  stuck : (i : ℕ) (qs : List Queued) (lanes : List Lane) (o : Own) (k : List Lane → Own → Listened) → IsOut limit p qs → (v : Heard) → lapse limit h' p.deadline ≡ v → taken limit h' p i qs lanes o k ≡ (v, lanes, o)
  stuck i [] lanes o k out v at = ap (λ (v : Heard). let r : Listened = (v, lanes, o) in r) at
  stuck i (q ∷ qs) lanes o k out v at =
      ap (λ (b : Bool). if b then heard p i q.item (with_items i qs lanes) (at_moment q.moment o) (k (with_items i qs lanes)) else (let r : Listened = (lapse limit h' p.deadline, lanes, o) in r)) out
      ∙ ap (λ (v : Heard). let r : Listened = (v, lanes, o) in r) at

  out_by : (qs : List Queued) (m : ℕ) → head_of qs ≡ Some m → h ≤ m → (v : Heard) → v ≢ NotYet → lapse limit h p.deadline ≡ v → IsOut limit p qs
  out_by [] m is late v differs at = tt
  out_by (q ∷ qs) m is late v differs at = let same : q.moment ≡ m = cc in none_comes q.moment (omega (arith, same, late)) v differs at

  module _ (lanes : List Lane) (o : Own) (none : next_of (heads (watched p) lanes) h ≡ None) (v : Heard) (differs : v ≢ NotYet) (at : lapse limit h p.deadline ≡ v) where
    silent_next : (k : List Lane → Own → Listened) (x : Option ℕ) → next_of (heads (watched p) (grow lanes)) h' ≡ x → on_next limit h' p x (grow lanes) o k ≡ (v, grow lanes, o)
    silent_next k None is = ap (λ (v : Heard). let r : Listened = (v, grow lanes, o) in r) (over_for v differs at)
    silent_next k (Some j) is =
        let ws = watched p in
        let there = next_there (heads ws (grow lanes)) h' j is in
        let late = comes_later h h' (heads ws lanes) (heads ws (grow lanes)) (arrives ws lanes) none j there.0 is there.1 in
        let out = out_by (lane_of (place_in ws j) (grow lanes)).items there.0 (head_there ws (grow lanes) j there.0 there.1) late v differs at in
        stuck (place_in ws j) (lane_of (place_in ws j) (grow lanes)).items (grow lanes) o k out v (over_for v differs at)

    silent : (n : ℕ) → listen_for n limit h' p (grow lanes) o ≡ (v, grow lanes, o)
    silent zero = ap (λ (v : Heard). let r : Listened = (v, grow lanes, o) in r) (over_for v differs at)
    silent (suc n) = silent_next (listen_for n limit h' p) (next_of (heads (watched p) (grow lanes)) h') refl

  -- nothing is taken now: it waits, or stays so
  module _ (n : ℕ) (lanes : List Lane) (o : Own) (below : item_count (grow lanes) < n) (stays : (v : Heard) → v ≢ NotYet → lapse limit h p.deadline ≡ v → listen_for n limit h' p (grow lanes) o ≡ (v, grow lanes, o)) where
    at_rest : (v : Heard) → lapse limit h p.deadline ≡ v → listen_for n limit h' p (grow lanes) o ≡ goes_on (v, lanes, o)
    at_rest NotYet at = enough limit h' p n (suc (item_count (grow lanes))) (grow lanes) o below (omega arith)
    at_rest v at = stays v (λ n. cc) at

  decided_more : (i : ℕ) (c : Chosen) (lanes : List Lane) (o : Own) (k k' : Own → Listened) → ((o : Own) → k' o ≡ goes_on (k o)) → decided i c (grow lanes) o k' ≡ goes_on (decided i c lanes o k)
  decided_more i (chosen.Pattern n spans) lanes o k k' same = refl
  decided_more i chosen.Full lanes o k k' same = refl
  decided_more i chosen.None lanes o k k' same = same (trimmed i o)

  tested_more : (ws : List Watch) (lanes : List Lane) (o : Own) (k k' : Own → Listened) → ((o : Own) → k' o ≡ goes_on (k o)) → tested p ws (grow lanes) o k' ≡ goes_on (tested p ws lanes o k)
  tested_more [] lanes o k k' same = same o
  tested_more (w ∷ ws) lanes o k k' same =
      decided_more w.0 (chosen_of p w o) lanes o (λ o. tested p ws lanes o k) (λ o. tested p ws (grow lanes) o k') (λ o. tested_more ws lanes o k k' same)

  heard_more : (i : ℕ) (it : Item) (lanes : List Lane) (o : Own) (k k' : Own → Listened) → ((o : Own) → k' o ≡ goes_on (k o)) → heard p i it (grow lanes) o k' ≡ goes_on (heard p i it lanes o k)
  heard_more i (item.Out piece) lanes o k k' same = tested_more (watched p) lanes (received i piece o) k k' same
  heard_more i item.Eof lanes o k k' same = refl
  heard_more i (item.ReadFail c) lanes o k k' same = refl

  module _ (n n' : ℕ) (lanes : List Lane) (o : Own) (rest : (lanes : List Lane) (o : Own) → item_count lanes < n → item_count (grow lanes) < n' → listen_for n' limit h' p (grow lanes) o ≡ goes_on (listen_for n limit h p lanes o)) (below : item_count lanes ≤ n) (below' : item_count (grow lanes) ≤ n') where
    module _ (j : ℕ) (next : next_of (heads (watched p) lanes) h ≡ Some j) where
      abbrev i : ℕ
      i = place_in (watched p) j

      abbrev items : MoreItems i h' lanes (grow lanes) (arrived e h')
      items = more_items i h' lanes e

      next_same : next_of (heads (watched p) (grow lanes)) h' ≡ Some j
      next_same = stays_next h h' (heads (watched p) lanes) (heads (watched p) (grow lanes)) le (arrives (watched p) lanes) j next

      -- the same child is next, with what it had and what came
      same_next : (qs : List Queued) → (lane_of i lanes).items ≡ qs → listen_for (suc n') limit h' p (grow lanes) o ≡ taken limit h' p i (qs ++ items.more) (grow lanes) o (listen_for n' limit h' p)
      same_next qs is =
          ap (λ (x : Option ℕ). on_next limit h' p x (grow lanes) o (listen_for n' limit h' p)) next_same
          ∙ ap (λ (qs : List Queued). taken limit h' p i qs (grow lanes) o (listen_for n' limit h' p)) (items.read ∙ ap (λ (qs : List Queued). qs ++ items.more) is)

      item_more : (q : Queued) (qs : List Queued) → (lane_of i lanes).items ≡ q ∷ qs → (b : Bool) → in_time limit p.deadline q.moment ≡ b
          → listen_for (suc n') limit h' p (grow lanes) o ≡ goes_on (if b then heard p i q.item (with_items i qs lanes) (at_moment q.moment o) (listen_for n limit h p (with_items i qs lanes)) else (lapse limit h p.deadline, lanes, o))
      item_more q qs is true at =
          let less = fewer i q qs lanes is in
          let less' = fewer i q (qs ++ items.more) (grow lanes) (items.read ∙ ap (λ (qs : List Queued). qs ++ items.more) is) in
          let same = ap item_count (items.put qs) in
          same_next (q ∷ qs) is
          ∙ ap (λ (b : Bool). if b then heard p i q.item (with_items i (qs ++ items.more) (grow lanes)) (at_moment q.moment o) (listen_for n' limit h' p (with_items i (qs ++ items.more) (grow lanes))) else (let r : Listened = (lapse limit h' p.deadline, grow lanes, o) in r)) at
          ∙ ap (λ (ls : List Lane). heard p i q.item ls (at_moment q.moment o) (listen_for n' limit h' p ls)) (items.put qs)
          ∙ heard_more i q.item (with_items i qs lanes) (at_moment q.moment o) (listen_for n limit h p (with_items i qs lanes)) (listen_for n' limit h' p (grow (with_items i qs lanes)))
          (λ o. rest (with_items i qs lanes) o (omega (arith, less, below)) (omega (arith, less', same, below')))
      item_more q qs is false at =
          at_rest (suc n') lanes o (omega (arith, below'))
          (λ v differs was. same_next (q ∷ qs) is ∙ stuck i (q ∷ qs ++ items.more) (grow lanes) o (listen_for n' limit h' p) at v (over_for v differs was))
          (lapse limit h p.deadline) refl

      items_more : (m : ℕ) (qs : List Queued) → head_of qs ≡ Some m → (lane_of i lanes).items ≡ qs → listen_for (suc n') limit h' p (grow lanes) o ≡ goes_on (taken limit h p i qs lanes o (listen_for n limit h p))
      items_more m [] head is = absurd (let no : None ≡ Some m = head in cc)
      items_more m (q ∷ qs) head is = item_more q qs is (in_time limit p.deadline q.moment) refl

    next_more : (x : Option ℕ) → next_of (heads (watched p) lanes) h ≡ x → listen_for (suc n') limit h' p (grow lanes) o ≡ goes_on (on_next limit h p x lanes o (listen_for n limit h p))
    next_more None is = at_rest (suc n') lanes o (omega (arith, below')) (λ v differs was. silent lanes o is v differs was (suc n')) (lapse limit h p.deadline) refl
    next_more (Some j) is =
        let there = next_there (heads (watched p) lanes) h j is in
        items_more j is there.0 (lane_of (place_in (watched p) j) lanes).items (head_there (watched p) lanes j there.0 there.1) refl

  pub listen_for_more : (n n' : ℕ) (lanes : List Lane) (o : Own) → item_count lanes < n → item_count (grow lanes) < n' → listen_for n' limit h' p (grow lanes) o ≡ goes_on (listen_for n limit h p lanes o)
  listen_for_more zero n' lanes o lt lt' = absurd (let no : item_count lanes < 0 = lt in omega arith)
  listen_for_more (suc n) zero lanes o lt lt' = absurd (let no : item_count (grow lanes) < 0 = lt' in omega arith)
  listen_for_more (suc n) (suc n') lanes o lt lt' =
      next_more n n' lanes o (λ lanes o lt lt'. listen_for_more n n' lanes o lt lt') (omega (arith, lt)) (omega (arith, lt')) (next_of (heads (watched p) lanes) h) refl

  pub listen_more : (lanes : List Lane) (o : Own) → listen limit h' p (grow lanes) o ≡ goes_on (listen limit h p lanes o)
  listen_more lanes o = listen_for_more (suc (item_count lanes)) (suc (item_count (grow lanes))) lanes o (omega arith) (omega arith)

  pub look_more : (lanes : List Lane) (o : Own) → look limit h' p (grow lanes) o ≡ goes_on (look limit h p lanes o)
  look_more lanes o = tested_more (watched p) lanes o (listen limit h p lanes) (listen limit h' p (grow lanes)) (λ o. listen_more lanes o)

pub takes_each : TakesEach
takes_each n limit h p lanes o below = enough limit h p n (suc (item_count lanes)) lanes o below (omega arith)
