-- What a child's items and answers are behind an event more.
use Rattle.std.proofs.Common.{◌≡◌, ℕ, ◌≤◌, ◌<◌, List, [], ◌∷◌, ◌++◌, length, Bool, true, false, ◌⊎◌, inl, inr, refl, sym, ap, ◌∙◌, arith}
use Rattle.std.specs.Prelude.{if◌then◌else◌}
use Rattle.std.proofs.lemmas.List.{append-nil}
use Rattle.child_events.specs.declared.event.Answer.{Answer}
use Rattle.child_events.specs.declared.event.Item.{Item}
use Rattle.child_events.specs.declared.event.Item.TheVariants as item
use Rattle.child_events.specs.declared.event.What.{What}
use Rattle.child_events.specs.declared.event.What.TheVariants as what
use Rattle.child_events.specs.declared.event.Event.{Event}
use Rattle.child_events.specs.declared.event.Event.TheVariants as event
use Rattle.child_events.specs.Queue.{Queued, came}
use Rattle.expect_core.specs.declared.lanes.Lane.{Lane}
use Rattle.expect_core.specs.Lanes.{lane_of, with_lane, Inbox, answer_box, item_box, with_left, with_items, with_answers, with_item, lane_with, grown, place, arrived}
use Rattle.expect_core.proofs.LaneFacts.{Same, Apart, parted, IsBeyond, IsInbox, left_there, grown-length}

-- the first of them comes no earlier
abbrev pub IsLaterIn : {X Y : Type 0} → Inbox X Y → ℕ → List X → Type 0
IsLaterIn b h [] = Unit {0}
IsLaterIn b h (x ∷ more) = h ≤ (b.stamp x).0

abbrev pub IsLater : ℕ → List Queued → Type 0
IsLater h qs = IsLaterIn item_box h qs

-- the first of them came from the child
abbrev pub IsFromChild : List Queued → Type 0
IsFromChild [] = Unit {0}
IsFromChild (q ∷ qs) = q.echoed ≡ false

-- these items come behind those of the child
pub record MoreItems (i : ℕ) (m : ℕ) (lanes after : List Lane) (to : List Lane → List Lane) : Type 0 where
  pub more : List Queued
  pub later : IsLater m more
  pub from : IsFromChild more
  pub read : (lane_of i after).items ≡ (lane_of i lanes).items ++ more
  pub put : (l : List Queued) → with_items i (l ++ more) after ≡ to (with_items i l lanes)

-- these come behind those that are there
pub record More {X Y : Type 0} (b : Inbox X Y) (i : ℕ) (m : ℕ) (lanes after : List Lane) (to : List Lane → List Lane) : Type 0 where
  pub more : List X
  pub later : IsLaterIn b m more
  pub read : b.read (lane_of i after) ≡ b.read (lane_of i lanes) ++ more
  pub put : (l : List X) → with_left b i (l ++ more) after ≡ to (with_left b i l lanes)

abbrev pub MoreAnswers : ℕ → ℕ → List Lane → List Lane → (List Lane → List Lane) → Type 0
MoreAnswers i m lanes after to = More answer_box i m lanes after to

pub as_more : (i m : ℕ) (lanes after : List Lane) (to : List Lane → List Lane) → MoreItems i m lanes after to → More item_box i m lanes after to
as_more i m lanes after to more = record { more = more.more; later = more.later; read = more.read; put = more.put }

module _ (i j : ℕ) (m : ℕ) (lanes : List Lane) where
  abbrev lane : Lane
  lane = lane_of i lanes

  items_apart : (g : Lane → Lane) → Apart i j g lanes → MoreItems i m lanes (grown g j lanes) (grown g j)
  items_apart g a = record {
    more = [];
    later = tt;
    from = tt;
    read = ap (λ (l : Lane). l.items) a.here ∙ sym (append-nil lane.items);
    put = λ l. ap (λ (q : List Queued). with_items i q (grown g j lanes)) (append-nil l)
        ∙ ap (λ (x : Lane). with_lane i (record x { items = l }) (grown g j lanes)) a.here
        ∙ a.put (record lane { items = l });
  }

  items_same : (g : Lane → Lane) (more : List Queued) → IsLater m more → IsFromChild more → (g lane).items ≡ lane.items ++ more → ((l : List Queued) → record (g lane) { items = l ++ more } ≡ g (record lane { items = l })) → Same i j g lanes → MoreItems i m lanes (grown g j lanes) (grown g j)
  items_same g more later from reads puts s = record {
    more = more;
    later = later;
    from = from;
    read = ap (λ (l : Lane). l.items) s.here ∙ reads;
    put = λ l. ap (λ (x : Lane). with_lane i (record x { items = l ++ more }) (grown g j lanes)) s.here
        ∙ ap (λ (x : Lane). with_lane i x (grown g j lanes)) (puts l)
        ∙ s.put (record lane { items = l });
  }

  item_same : (it : Item) (ends b : Bool) → lane.over ≡ b → Same i j (with_item m it ends) lanes → MoreItems i m lanes (grown (with_item m it ends) j lanes) (grown (with_item m it ends) j)
  item_same it ends true e s =
      items_same (with_item m it ends) [] tt tt
      (ap (λ (b : Bool). (if b then lane else record lane { items = lane.items ++ came (m, it) ∷ []; over = ends }).items) e ∙ sym (append-nil lane.items))
      (λ l. ap (λ (b : Bool). record (if b then lane else record lane { items = lane.items ++ came (m, it) ∷ []; over = ends }) { items = l ++ [] }) e
      ∙ ap (λ (k : List Queued). record lane { items = k }) (append-nil l)
      ∙ sym (ap (λ (b : Bool). if b then record lane { items = l } else record lane { items = l ++ came (m, it) ∷ []; over = ends }) e))
      s
  item_same it ends false e s =
      items_same (with_item m it ends) (came (m, it) ∷ []) (omega arith) refl
      (ap (λ (b : Bool). (if b then lane else record lane { items = lane.items ++ came (m, it) ∷ []; over = ends }).items) e)
      (λ l. ap (λ (b : Bool). record (if b then lane else record lane { items = lane.items ++ came (m, it) ∷ []; over = ends }) { items = l ++ came (m, it) ∷ [] }) e
      ∙ sym (ap (λ (b : Bool). if b then record lane { items = l } else record lane { items = l ++ came (m, it) ∷ []; over = ends }) e))
      s

  items_of : (w : What) → Same i j (lane_with m w) lanes → MoreItems i m lanes (grown (lane_with m w) j lanes) (grown (lane_with m w) j)
  items_of (what.Out piece) s = item_same (item.Out piece) false lane.over refl s
  items_of what.Eof s = item_same item.Eof true lane.over refl s
  items_of (what.ReadFail c) s = item_same (item.ReadFail c) true lane.over refl s
  items_of (what.Answer a) s =
      items_same (lane_with m (what.Answer a)) [] tt tt (sym (append-nil lane.items))
      (λ l. ap (λ (k : List Queued). record lane { items = k; answers = lane.answers ++ (m, a) ∷ [] }) (append-nil l))
      s

  answers_apart : (g : Lane → Lane) → Apart i j g lanes → MoreAnswers i m lanes (grown g j lanes) (grown g j)
  answers_apart g a = record {
    more = [];
    later = tt;
    read = ap (λ (l : Lane). l.answers) a.here ∙ sym (append-nil lane.answers);
    put = λ l. ap (λ (q : List (ℕ × Answer)). with_answers i q (grown g j lanes)) (append-nil l)
        ∙ ap (λ (x : Lane). with_lane i (record x { answers = l }) (grown g j lanes)) a.here
        ∙ a.put (record lane { answers = l });
  }

  answers_same : (g : Lane → Lane) (more : List (ℕ × Answer)) → IsLaterIn answer_box m more → (g lane).answers ≡ lane.answers ++ more → ((l : List (ℕ × Answer)) → record (g lane) { answers = l ++ more } ≡ g (record lane { answers = l })) → Same i j g lanes → MoreAnswers i m lanes (grown g j lanes) (grown g j)
  answers_same g more later reads puts s = record {
    more = more;
    later = later;
    read = ap (λ (l : Lane). l.answers) s.here ∙ reads;
    put = λ l. ap (λ (x : Lane). with_lane i (record x { answers = l ++ more }) (grown g j lanes)) s.here
        ∙ ap (λ (x : Lane). with_lane i x (grown g j lanes)) (puts l)
        ∙ s.put (record lane { answers = l });
  }

  -- an item changes no answers
  no_answer : (it : Item) (ends b : Bool) → lane.over ≡ b → Same i j (with_item m it ends) lanes → MoreAnswers i m lanes (grown (with_item m it ends) j lanes) (grown (with_item m it ends) j)
  no_answer it ends true e s =
      answers_same (with_item m it ends) [] tt
      (ap (λ (b : Bool). (if b then lane else record lane { items = lane.items ++ came (m, it) ∷ []; over = ends }).answers) e ∙ sym (append-nil lane.answers))
      (λ l. ap (λ (b : Bool). record (if b then lane else record lane { items = lane.items ++ came (m, it) ∷ []; over = ends }) { answers = l ++ [] }) e
      ∙ ap (λ (k : List (ℕ × Answer)). record lane { answers = k }) (append-nil l)
      ∙ sym (ap (λ (b : Bool). if b then record lane { answers = l } else record lane { items = lane.items ++ came (m, it) ∷ []; answers = l; over = ends }) e))
      s
  no_answer it ends false e s =
      answers_same (with_item m it ends) [] tt
      (ap (λ (b : Bool). (if b then lane else record lane { items = lane.items ++ came (m, it) ∷ []; over = ends }).answers) e ∙ sym (append-nil lane.answers))
      (λ l. ap (λ (b : Bool). record (if b then lane else record lane { items = lane.items ++ came (m, it) ∷ []; over = ends }) { answers = l ++ [] }) e
      ∙ ap (λ (k : List (ℕ × Answer)). record lane { items = lane.items ++ came (m, it) ∷ []; answers = k; over = ends }) (append-nil l)
      ∙ sym (ap (λ (b : Bool). if b then record lane { answers = l } else record lane { items = lane.items ++ came (m, it) ∷ []; answers = l; over = ends }) e))
      s

  answers_of : (w : What) → Same i j (lane_with m w) lanes → MoreAnswers i m lanes (grown (lane_with m w) j lanes) (grown (lane_with m w) j)
  answers_of (what.Out piece) s = no_answer (item.Out piece) false lane.over refl s
  answers_of what.Eof s = no_answer item.Eof true lane.over refl s
  answers_of (what.ReadFail c) s = no_answer (item.ReadFail c) true lane.over refl s
  answers_of (what.Answer a) s = answers_same (lane_with m (what.Answer a)) ((m, a) ∷ []) (omega arith) refl (λ l. refl) s

module _ (i : ℕ) (m : ℕ) (lanes : List Lane) where
  pub more_items : (e : Event) → MoreItems i m lanes (arrived e m lanes) (arrived e m)
  more_items (event.Tick t) = record {
    more = [];
    later = tt;
    from = tt;
    read = sym (append-nil (lane_of i lanes).items);
    put = λ l. ap (λ (q : List Queued). with_items i q lanes) (append-nil l);
  }
  more_items (event.Child c t w) = elim (parted i (place c) (lane_with m w) lanes) [ inl s ↦ items_of i (place c) m lanes w s | inr a ↦ items_apart i (place c) m lanes (lane_with m w) a ]

  pub more_answers : (e : Event) → MoreAnswers i m lanes (arrived e m lanes) (arrived e m)
  more_answers (event.Tick t) = record {
    more = [];
    later = tt;
    read = sym (append-nil (lane_of i lanes).answers);
    put = λ l. ap (λ (q : List (ℕ × Answer)). with_answers i q lanes) (append-nil l);
  }
  more_answers (event.Child c t w) = elim (parted i (place c) (lane_with m w) lanes) [ inl s ↦ answers_of i (place c) m lanes w s | inr a ↦ answers_apart i (place c) m lanes (lane_with m w) a ]

pub arrived-length : (e : Event) (m : ℕ) (lanes : List Lane) → length (arrived e m lanes) ≡ length lanes
arrived-length (event.Tick t) m lanes = refl
arrived-length (event.Child c t w) m lanes = grown-length (lane_with m w) (place c) lanes

-- there is room for them, or there are none
abbrev pub Fits : {X : Type 0} → ℕ → List X → List Lane → Type 0
Fits i left lanes = (i < length lanes) ⊎ (IsBeyond i lanes × (left ≡ []))

module _ {X Y : Type 0} (b : Inbox X Y) (is : IsInbox b) (i : ℕ) (e : Event) (m : ℕ) (lanes : List Lane) (more : More b i m lanes (arrived e m lanes) (arrived e m)) where
  pub more_there : (left : List X) → Fits i left lanes → b.read (lane_of i (arrived e m (with_left b i left lanes))) ≡ left ++ more.more
  more_there left (inl lt) =
      sym (ap (λ (ls : List Lane). b.read (lane_of i ls)) (more.put left))
      ∙ left_there b is i (left ++ more.more) (arrived e m lanes) (omega (arith, lt, arrived-length e m lanes))
  more_there left (inr beyond) =
      ap (λ (ls : List Lane). b.read (lane_of i (arrived e m ls))) (beyond.0.put (b.put left (lane_of i lanes)))
      ∙ more.read
      ∙ ap (λ (l : Lane). b.read l ++ more.more) beyond.0.none
      ∙ ap (λ (k : List X). k ++ more.more) (is.none ∙ sym beyond.1)
