-- What a world holds after events, in terms of the events alone.
use Rattle.std.proofs.Common.{◌≡◌, ◌≢◌, ℕ, ◌-◌, ◌<◌, ◌≤◌, max, List, [], ◌∷◌, ◌++◌, length, replicate, Bool, true, false, Option, Some, None, refl, sym, ap, subst, ◌∙◌, append_assoc, arith, eq-eqb}
use Rattle.std.specs.Prelude.{◌==◌, if◌then◌else◌, slice_set, slice_index_or}
use Rattle.std.proofs.lemmas.List.{append-nil, get_or-replicate, length-set, get_or-set_same, get_or-set_other}
use Rattle.std.proofs.lemmas.Bool.{eqb-true}
use Rattle.std.proofs.lemmas.Bool.Decides.{nat_tests}
use Rattle.child_events.specs.declared.event.Answer.{Answer}
use Rattle.child_events.specs.declared.event.What.{What}
use Rattle.child_events.specs.declared.event.What.TheVariants as what
use Rattle.child_events.specs.declared.event.Item.{Item}
use Rattle.child_events.specs.declared.event.Item.TheVariants as item
use Rattle.child_events.specs.declared.event.Event.{Event}
use Rattle.child_events.specs.declared.event.Event.TheVariants as event
use Rattle.child_events.specs.declared.event.HallEvent.{HallEvent}
use Rattle.child_events.specs.World.{Lane}
use Rattle.child_events.specs.World.{World}
use Rattle.child_events.specs.World.{blank, with_item, lane_with, lane_at, lanes_with, lane_of, grown, grown_all, blank_lanes, fresh, raised_from, raised, horizon_from, horizon_of, items_of, answers_of, Knows, own_of, after_own, own}

-- the lane of a child that an event is of
lane_same : (c m : ℕ) (w : What) (lanes : List Lane) → 1 ≤ c → c ≤ length lanes → lane_at c (lanes_with c m w lanes) ≡ lane_with m w (lane_at c lanes)
lane_same c m w lanes low high = by_test (c == 0) (not_zero c low)
  where
    not_zero : (d : ℕ) → 1 ≤ d → (d == 0) ≡ false
    not_zero d le = grind (arith, nat_tests)

    place : c - 1 < length lanes
    place = omega arith

    by_test : (t : Bool) → t ≡ false →
        (if t then blank else slice_index_or (if t then lanes else slice_set lanes (c - 1) (lane_with m w (if t then blank else slice_index_or lanes (c - 1) blank))) (c - 1) blank)
        ≡ lane_with m w (if t then blank else slice_index_or lanes (c - 1) blank)
    by_test true h = absurd (cc)
    by_test false h = get_or-set_same lanes (c - 1) (lane_with m w (slice_index_or lanes (c - 1) blank)) blank place

-- and of any other
lane_other : (c d m : ℕ) (w : What) (lanes : List Lane) → 1 ≤ c → (d == c) ≡ false → lane_at c (lanes_with d m w lanes) ≡ lane_at c lanes
lane_other c d m w lanes low other = by_tests (c == 0) (d == 0) refl (not_zero c low)
  where
    not_zero : (k : ℕ) → 1 ≤ k → (k == 0) ≡ false
    not_zero k le = grind (arith, nat_tests)

    apart : (d == 0) ≡ false → c - 1 ≢ d - 1
    apart h = λ e. absurd (grind (arith, nat_tests))

    by_tests : (t u : Bool) → (d == 0) ≡ u → t ≡ false →
        (if t then blank else slice_index_or (if u then lanes else slice_set lanes (d - 1) (lane_with m w (if u then blank else slice_index_or lanes (d - 1) blank))) (c - 1) blank)
        ≡ (if t then blank else slice_index_or lanes (c - 1) blank)
    by_tests true u hu ht = absurd (cc)
    by_tests false true hu ht = refl
    by_tests false false hu ht = get_or-set_other lanes (d - 1) (c - 1) (lane_with m w (slice_index_or lanes (d - 1) blank)) blank (apart hu)

lanes_len : (d m : ℕ) (w : What) (lanes : List Lane) → length (lanes_with d m w lanes) ≡ length lanes
lanes_len d m w lanes = by_test (d == 0)
  where
    by_test : (t : Bool) → length (if t then lanes else slice_set lanes (d - 1) (lane_with m w (if t then blank else slice_index_or lanes (d - 1) blank))) ≡ length lanes
    by_test true = refl
    by_test false = length-set lanes (d - 1) (lane_with m w (slice_index_or lanes (d - 1) blank))

-- items that come behind those of a lane
abbrev items_behind : Lane → List (ℕ × Item) → List (ℕ × Item)
items_behind lane more = if lane.over then lane.items else lane.items ++ more

record Grows (before after : Lane) (c : ℕ) (later : List Event) : Type 0 where
  items : after.items ≡ items_behind before (items_of c later)
  answers : after.answers ≡ before.answers ++ answers_of c later

none_more : (lane : Lane) (c : ℕ) → Grows lane lane c []
none_more lane c = record { items = by_test lane.over; answers = sym (append-nil lane.answers) }
  where
    by_test : (t : Bool) → lane.items ≡ (if t then lane.items else lane.items ++ [])
    by_test true = refl
    by_test false = sym (append-nil lane.items)

item_more : (lane after : Lane) (m : ℕ) (i : Item) (more : List (ℕ × Item)) → after.items ≡ items_behind (with_item m i false lane) more → after.items ≡ items_behind lane ((m, i) ∷ more)
item_more lane after m i more h = by_test lane.over refl h
  where
    by_test : (t : Bool) → lane.over ≡ t →
        after.items ≡ (let new : Lane = if t then lane else record lane { items = lane.items ++ (m, i) ∷ []; over = false } in if new.over then new.items else new.items ++ more) →
        after.items ≡ (if t then lane.items else lane.items ++ (m, i) ∷ more)
    by_test true is k = k ∙ ap (λ (o : Bool). if o then lane.items else lane.items ++ more) is
    by_test false is k = k ∙ append_assoc lane.items ((m, i) ∷ []) more

item_last : (lane after : Lane) (m : ℕ) (i : Item) (more : List (ℕ × Item)) → after.items ≡ items_behind (with_item m i true lane) more → after.items ≡ items_behind lane ((m, i) ∷ [])
item_last lane after m i more h = by_test lane.over refl h
  where
    by_test : (t : Bool) → lane.over ≡ t →
        after.items ≡ (let new : Lane = if t then lane else record lane { items = lane.items ++ (m, i) ∷ []; over = true } in if new.over then new.items else new.items ++ more) →
        after.items ≡ (if t then lane.items else lane.items ++ (m, i) ∷ [])
    by_test true is k = k ∙ ap (λ (o : Bool). if o then lane.items else lane.items ++ more) is
    by_test false is k = k

same_answers : (m : ℕ) (i : Item) (ends : Bool) (lane : Lane) → (with_item m i ends lane).answers ≡ lane.answers
same_answers m i ends lane = by_test lane.over
  where
    by_test : (t : Bool) → (let new : Lane = if t then lane else record lane { items = lane.items ++ (m, i) ∷ []; over = ends } in new.answers) ≡ lane.answers
    by_test true = refl
    by_test false = refl

-- an event of the child itself
own_more : (lane after : Lane) (c m : ℕ) (w : What) (later : List Event) → Grows (lane_with m w lane) after c later → Grows lane after c (event.Child c m w ∷ later)
own_more lane after c m w later grows = by_what w grows
  where
    itself : (c == c) ≡ true
    itself = eq-eqb c c refl

    by_what : (x : What) → Grows (lane_with m x lane) after c later → Grows lane after c (event.Child c m x ∷ later)
    by_what (what.Out piece) g = record {
      items = item_more lane after m (item.Out piece) (items_of c later) g.items ∙ ap (λ (t : Bool). items_behind lane (if t then (m, item.Out piece) ∷ items_of c later else items_of c later)) (sym itself);
      answers = g.answers ∙ ap (λ (known : List (ℕ × Answer)). known ++ answers_of c later) (same_answers m (item.Out piece) false lane);
    }
    by_what what.Eof g = record {
      items = item_last lane after m item.Eof (items_of c later) g.items ∙ ap (λ (t : Bool). items_behind lane (if t then (m, item.Eof) ∷ [] else items_of c later)) (sym itself);
      answers = g.answers ∙ ap (λ (known : List (ℕ × Answer)). known ++ answers_of c later) (same_answers m item.Eof true lane);
    }
    by_what (what.ReadFail cause) g = record {
      items = item_last lane after m (item.ReadFail cause) (items_of c later) g.items ∙ ap (λ (t : Bool). items_behind lane (if t then (m, item.ReadFail cause) ∷ [] else items_of c later)) (sym itself);
      answers = g.answers ∙ ap (λ (known : List (ℕ × Answer)). known ++ answers_of c later) (same_answers m (item.ReadFail cause) true lane);
    }
    by_what (what.Answer a) g = record {
      items = g.items;
      answers = g.answers ∙ append_assoc lane.answers ((m, a) ∷ []) (answers_of c later) ∙ ap (λ (t : Bool). lane.answers ++ (if t then (m, a) ∷ answers_of c later else answers_of c later)) (sym itself);
    }

-- an event of another child
other_more : (lane after : Lane) (c d m : ℕ) (w : What) (later : List Event) → (d == c) ≡ false → Grows lane after c later → Grows lane after c (event.Child d m w ∷ later)
other_more lane after c d m w later other grows = by_what w
  where
    by_what : (x : What) → Grows lane after c (event.Child d m x ∷ later)
    by_what (what.Out piece) = record {
      items = grows.items ∙ ap (λ (t : Bool). items_behind lane (if t then (m, item.Out piece) ∷ items_of c later else items_of c later)) (sym other);
      answers = grows.answers;
    }
    by_what what.Eof = record {
      items = grows.items ∙ ap (λ (t : Bool). items_behind lane (if t then (m, item.Eof) ∷ [] else items_of c later)) (sym other);
      answers = grows.answers;
    }
    by_what (what.ReadFail cause) = record {
      items = grows.items ∙ ap (λ (t : Bool). items_behind lane (if t then (m, item.ReadFail cause) ∷ [] else items_of c later)) (sym other);
      answers = grows.answers;
    }
    by_what (what.Answer a) = record {
      items = grows.items;
      answers = grows.answers ∙ ap (λ (t : Bool). lane.answers ++ (if t then (m, a) ∷ answers_of c later else answers_of c later)) (sym other);
    }

child_more : (lanes : List Lane) (after : Lane) (c d m : ℕ) (w : What) (later : List Event) → 1 ≤ c → c ≤ length lanes →
    Grows (lane_at c (lanes_with d m w lanes)) after c later → Grows (lane_at c lanes) after c (event.Child d m w ∷ later)
child_more lanes after c d m w later low high grows = by_test (d == c) refl
  where
    by_test : (t : Bool) → (d == c) ≡ t → Grows (lane_at c lanes) after c (event.Child d m w ∷ later)
    by_test true is =
        let same : c ≡ d = sym (eqb-true d c is) in
        subst (λ (k : ℕ). Grows (lane_at c lanes) after c (event.Child k m w ∷ later)) same
        (own_more (lane_at c lanes) after c m w later
        (subst (λ (lane : Lane). Grows lane after c later) (lane_same c m w lanes low high) (subst (λ (k : ℕ). Grows (lane_at c (lanes_with k m w lanes)) after c later) (sym same) grows)))
    by_test false is = other_more (lane_at c lanes) after c d m w later is (subst (λ (lane : Lane). Grows lane after c later) (lane_other c d m w lanes low is) grows)

all_more : (w : World) (es : List Event) (c : ℕ) → 1 ≤ c → c ≤ length w.lanes → Grows (lane_of c w) (lane_of c (grown_all w es)) c (raised_from w.horizon es)
all_more w [] c low high = none_more (lane_of c w) c
all_more w (event.Tick m ∷ es) c low high =
    let g = all_more (grown w (event.Tick m)) es c low high in
    record { items = g.items; answers = g.answers }
all_more w (event.Child d m x ∷ es) c low high =
    child_more w.lanes (lane_of c (grown_all (grown w (event.Child d m x)) es)) c d (max w.horizon m) x (raised_from (max w.horizon m) es) low high
    (all_more (grown w (event.Child d m x)) es c low (let e = lanes_len d (max w.horizon m) x w.lanes in omega arith))

blank_len : length blank_lanes ≡ 16
unfolding blank_lanes
blank_len = refl

blank_at : (c : ℕ) → 1 ≤ c → c ≤ 16 → lane_at c blank_lanes ≡ blank
unfolding blank_lanes
blank_at c low high = by_test (c == 0)
  where
    by_test : (t : Bool) → (if t then blank else slice_index_or (replicate 16 blank) (c - 1) blank) ≡ blank
    by_test true = refl
    by_test false = get_or-replicate 16 (c - 1) blank blank (omega arith)

pub knows : (es : List Event) (c : ℕ) → 1 ≤ c → c ≤ 16 → Knows (grown_all fresh es) c es
knows es c low high =
    let g = all_more fresh es c low (omega (arith, blank_len)) in
    let none = blank_at c low high in
    record {
      items = g.items ∙ ap (λ (lane : Lane). items_behind lane (items_of c (raised es))) none;
      answers = g.answers ∙ ap (λ (lane : Lane). lane.answers ++ answers_of c (raised es)) none;
    }

horizon_all : (w : World) (es : List Event) → (grown_all w es).horizon ≡ horizon_from w.horizon es
horizon_all w [] = refl
horizon_all w (event.Tick m ∷ es) = horizon_all (grown w (event.Tick m)) es
horizon_all w (event.Child d m x ∷ es) = horizon_all (grown w (event.Child d m x)) es

pub horizon_is : (es : List Event) → (grown_all fresh es).horizon ≡ horizon_of es
horizon_is es = horizon_all fresh es

-- some events, and then others
pub grown_all-append : (w : World) (es fs : List Event) → grown_all w (es ++ fs) ≡ grown_all (grown_all w es) fs
grown_all-append w [] fs = refl
grown_all-append w (e ∷ es) fs = grown_all-append (grown w e) es fs

pub own-append : (script : ℕ) (es fs : List HallEvent) → own script (es ++ fs) ≡ own script es ++ own script fs
own-append script [] fs = refl
own-append script (e ∷ es) fs = ap (after_own (own_of script e)) (own-append script es fs) ∙ sym (after_own-append (own_of script e) (own script es) (own script fs))
  where
    after_own-append : (o : Option Event) (xs ys : List Event) → after_own o xs ++ ys ≡ after_own o (xs ++ ys)
    after_own-append None xs ys = refl
    after_own-append (Some x) xs ys = refl
