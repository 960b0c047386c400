-- What a wait for patterns takes, stated without a computation. It takes the first items in time, up to the first that
-- ends a child's output or after which a test chooses.
use Rattle.std.specs.Prelude.{◌≡◌, ◌↔◌, ◌⊎◌, ℕ, List, [], ◌∷◌, true, Option, Some, None}
use Rattle.child_events.specs.declared.event.Item.{Item}
use Rattle.child_events.specs.declared.event.Item.TheVariants as item
use Rattle.child_events.specs.Queue.{Queued, stamped}
use Rattle.child_events.specs.Next.{IsNext}
use Rattle.exp_match.specs.declared.chosen.Chosen.{Chosen}
use Rattle.exp_match.specs.declared.chosen.Chosen.TheVariants as chosen
use Rattle.expect_core.specs.declared.lanes.Lane.{Lane}
use Rattle.expect_core.specs.declared.plan.Plan.{Plan}
use Rattle.expect_core.specs.declared.phase.Heard.{Heard}
use Rattle.expect_core.specs.declared.phase.Heard.TheVariants.{Match, Full, Ended, Failed}
use Rattle.expect_core.specs.declared.own.Own.{Own}
use Rattle.expect_core.specs.Lanes.{lane_of, with_items}
use Rattle.expect_core.specs.Owned.{received, at_moment, trimmed}
use Rattle.expect_core.specs.Answered.{first_item}
use Rattle.expect_core.specs.Heard.{Watch, watched, place_in, in_time, lapse, Listened, chosen_of, heads, listen}

-- The first item q of the child at place i is taken, and qs remain. It is the earliest of the next items, and it is in
-- time. Of several earliest ones it is that of the lowest place. No earlier item can come any more.
pub record IsTaken (limit : Option ℕ) (h : ℕ) (p : Plan) (lanes : List Lane) (i : ℕ) (q : Queued) (qs : List Queued) : Type 0 where
  pub side : ℕ
  pub here : place_in (watched p) side ≡ i
  pub next : IsNext (heads (watched p) lanes) h (Some side)
  pub first : (lane_of i lanes).items ≡ q ∷ qs
  pub on_time : in_time limit p.deadline q.moment ≡ true

-- The buffers are tested in order of places. Nothing is chosen, and each is trimmed to its size.
abbrev pub ChoosesNone : Plan → List Watch → Own → Own → Type 0
ChoosesNone p [] o new = new ≡ o
ChoosesNone p (w ∷ ws) o new = (chosen_of p w o ≡ chosen.None) × ChoosesNone p ws (trimmed w.0 o) new

-- The result of a choice for the match buffer of the child at a place.
abbrev pub IsChosen : ℕ → Chosen → Heard → Type 0
IsChosen i (chosen.Pattern n spans) v = v ≡ Match i n spans
IsChosen i chosen.Full v = v ≡ Full i
IsChosen i chosen.None v = ⊥

-- The first child for which a test chooses decides.
abbrev pub Chooses : Plan → List Watch → Own → Heard → Own → Type 0
Chooses p [] o v new = ⊥
Chooses p (w ∷ ws) o v new =
    (IsChosen w.0 (chosen_of p w o) v × (new ≡ o)) ⊎ ((chosen_of p w o ≡ chosen.None) × Chooses p ws (trimmed w.0 o) v new)

-- The result of the last item. The child has ended, or a test after its bytes chooses.
abbrev pub Decides : Plan → ℕ → Item → Own → Heard → Own → Type 0
Decides p i (item.Out piece) o v new = Chooses p (watched p) (received i piece o) v new
Decides p i item.Eof o v new = (v ≡ Ended i) × (new ≡ o)
Decides p i (item.ReadFail c) o v new = (v ≡ Failed i c) × (new ≡ o)

-- No item is taken, and time decides.
abbrev pub Lapses : Option ℕ → ℕ → Plan → List Lane → Own → Listened → Type 0
Lapses limit h p lanes o r =
    ((i : ℕ) (q : Queued) (qs : List Queued) → ¬ IsTaken limit h p lanes i q qs) × (r ≡ (lapse limit h p.deadline, lanes, o))

-- One more item is taken, and is the last.
abbrev pub Ends : Option ℕ → ℕ → Plan → List Lane → Own → Listened → Type 0
Ends limit h p lanes o (v, left, new) =
    (i : ℕ) × (q : Queued) × (qs : List Queued) × IsTaken limit h p lanes i q qs × (left ≡ with_items i qs lanes) × Decides p i q.item (at_moment q.moment o) v new

-- These pieces are taken, each from the child at its place. The tests after each of them choose nothing. Then one more
-- item decides, or time does.
abbrev pub Comes : Option ℕ → ℕ → Plan → List (ℕ × List ℕ) → List Lane → Own → Listened → Type 0
Comes limit h p [] lanes o r = Lapses limit h p lanes o r ⊎ Ends limit h p lanes o r
Comes limit h p (x ∷ xs) lanes o r =
    (q : Queued) × (qs : List Queued) × (new : Own) × IsTaken limit h p lanes x.0 q qs × (q.item ≡ item.Out x.1)
    × ChoosesNone p (watched p) (received x.0 x.1 (at_moment q.moment o)) new × Comes limit h p xs (with_items x.0 qs lanes) new r

-- It holds for every wait whose match buffers have been tested.
abbrev pub TakesInOrder : Type 0
TakesInOrder =
    (limit : Option ℕ) (h : ℕ) (p : Plan) (lanes : List Lane) (o : Own) →
    (xs : List (ℕ × List ℕ)) × Comes limit h p xs lanes o (listen limit h p lanes o)

-- The first item of a child, if it is in time, is what an `expect` without a deadline takes for this child alone.
abbrev pub FirstIsTaken : Type 0
FirstIsTaken =
    (limit : Option ℕ) (h : ℕ) (p : Plan) (lanes : List Lane) (i : ℕ) (groups : List ℕ) (q : Queued) (qs : List Queued) →
    p.sides ≡ (i, groups) ∷ [] → p.deadline ≡ None → (lane_of i lanes).items ≡ q ∷ qs →
    IsTaken limit h p lanes i q qs ↔ (first_item limit (q ∷ qs) ≡ (Some (stamped q), qs))
