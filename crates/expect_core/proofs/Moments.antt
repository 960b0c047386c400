-- No moment in a dialogue's lanes comes to be later than its greatest one.
use Rattle.std.proofs.Common.{ℕ, zero, suc, ◌≤◌, List, [], ◌∷◌, ◌++◌, Bool, true, false, max, map, arith}
use Rattle.std.specs.Prelude.{nat_le, replicate, if◌then◌else◌}
use Rattle.child_events.specs.declared.event.Answer.{Answer}
use Rattle.child_events.specs.declared.event.Item.{Item}
use Rattle.child_events.specs.declared.event.Item.TheVariants as item
use Rattle.child_events.specs.declared.event.What.{What}
use Rattle.child_events.specs.declared.event.What.TheVariants as what
use Rattle.child_events.specs.declared.event.Event.{Event}
use Rattle.child_events.specs.declared.event.Event.TheVariants as event
use Rattle.child_events.specs.World.{moment_of}
use Rattle.child_events.specs.Queue.{Queued, came, echo, echoes, pieces, put, with_echo}
use Rattle.expect_core.specs.declared.lanes.Lane.{Lane}
use Rattle.expect_core.specs.declared.dialogue.Dialogue.{Dialogue}
use Rattle.expect_core.specs.Lanes.{no_lane, lane_of, with_lane, with_items, with_answers, lane_with, place, arrived, offered}
use Rattle.expect_core.specs.Good.{ItemsBy, AnswersBy, LanesBy, Good}

items_raise : (h k : ℕ) (qs : List Queued) → h ≤ k → ItemsBy h qs → ItemsBy k qs
items_raise h k [] le b = tt
items_raise h k (q ∷ qs) le b = (omega (arith, b.0, le), items_raise h k qs le b.1)

answers_raise : (h k : ℕ) (l : List (ℕ × Answer)) → h ≤ k → AnswersBy h l → AnswersBy k l
answers_raise h k [] le b = tt
answers_raise h k (a ∷ l) le b = (omega (arith, b.0, le), answers_raise h k l le b.1)

lanes_raise : (h k : ℕ) (ls : List Lane) → h ≤ k → LanesBy h ls → LanesBy k ls
lanes_raise h k [] le b = tt
lanes_raise h k (l ∷ ls) le b = (items_raise h k l.items le b.0, answers_raise h k l.answers le b.1, lanes_raise h k ls le b.2)

items_more : (h : ℕ) (qs : List Queued) (q : Queued) → ItemsBy h qs → q.moment ≤ h → ItemsBy h (qs ++ q ∷ [])
items_more h [] q b le = (le, tt)
items_more h (x ∷ qs) q b le = (b.0, items_more h qs q b.1 le)

answers_more : (h : ℕ) (l : List (ℕ × Answer)) (a : ℕ × Answer) → AnswersBy h l → a.0 ≤ h → AnswersBy h (l ++ a ∷ [])
answers_more h [] a b le = (le, tt)
answers_more h (x ∷ l) a b le = (b.0, answers_more h l a b.1 le)

pub items_by : (h i : ℕ) (ls : List Lane) → LanesBy h ls → ItemsBy h (lane_of i ls).items
items_by h i [] b = tt
items_by h zero (l ∷ ls) b = b.0
items_by h (suc i) (l ∷ ls) b = items_by h i ls b.2

pub answers_by : (h i : ℕ) (ls : List Lane) → LanesBy h ls → AnswersBy h (lane_of i ls).answers
answers_by h i [] b = tt
answers_by h zero (l ∷ ls) b = b.1
answers_by h (suc i) (l ∷ ls) b = answers_by h i ls b.2

lane_by : (h i : ℕ) (x : Lane) (ls : List Lane) → LanesBy h ls → ItemsBy h x.items → AnswersBy h x.answers → LanesBy h (with_lane i x ls)
lane_by h i x [] b items answers = tt
lane_by h zero x (l ∷ ls) b items answers = (items, answers, b.2)
lane_by h (suc i) x (l ∷ ls) b items answers = (b.0, b.1, lane_by h i x ls b.2 items answers)

pub with_items_by : (h i : ℕ) (left : List Queued) (ls : List Lane) → LanesBy h ls → ItemsBy h left → LanesBy h (with_items i left ls)
with_items_by h i left ls b items = lane_by h i _ ls b items (answers_by h i ls b)

pub with_answers_by : (h i : ℕ) (left : List (ℕ × Answer)) (ls : List Lane) → LanesBy h ls → AnswersBy h left → LanesBy h (with_answers i left ls)
with_answers_by h i left ls b answers = lane_by h i _ ls b (items_by h i ls b) answers

module _ (h : ℕ) (l : Lane) (items : ItemsBy h l.items) (answers : AnswersBy h l.answers) where
  abbrev Fine : Lane → Type 0
  Fine x = ItemsBy h x.items × AnswersBy h x.answers

  item_fine : (it : Item) (ends b : Bool) → Fine (if b then l else record l { items = l.items ++ came (h, it) ∷ []; over = ends })
  item_fine it ends true = (items, answers)
  item_fine it ends false = (items_more h l.items (came (h, it)) items (omega arith), answers)

  lane_fine : (w : What) → Fine (lane_with h w l)
  lane_fine (what.Out piece) = item_fine (item.Out piece) false l.over
  lane_fine what.Eof = item_fine item.Eof true l.over
  lane_fine (what.ReadFail c) = item_fine (item.ReadFail c) true l.over
  lane_fine (what.Answer a) = (items, answers_more h l.answers (h, a) answers (omega arith))

arrived_by : (h : ℕ) (e : Event) (ls : List Lane) → LanesBy h ls → LanesBy h (arrived e h ls)
arrived_by h (event.Tick m) ls b = b
arrived_by h (event.Child c m w) ls b =
    let fine = lane_fine h (lane_of (place c) ls) (items_by h (place c) ls b) (answers_by h (place c) ls b) w in
    lane_by h (place c) (lane_with h w (lane_of (place c) ls)) ls b fine.0 fine.1

pub lanes_raised : (m : ℕ) (st : Dialogue) → Good st → LanesBy (max st.horizon m) st.lanes
lanes_raised m st g = lanes_raise st.horizon (max st.horizon m) st.lanes (omega arith) g.lanes

pub good_offered : (e : Event) (st : Dialogue) → Good st → Good (offered e st)
good_offered e st g = record {
  clock = omega (arith, g.clock);
  lanes = arrived_by (max st.horizon (moment_of e)) e st.lanes (lanes_raise st.horizon (max st.horizon (moment_of e)) st.lanes (omega arith) g.lanes);
}

-- echoes

echoes_by : (h t : ℕ) (ps : List (List ℕ)) → t ≤ h → ItemsBy h (map echo (map (λ p. (t, item.Out p)) ps))
echoes_by h t [] le = tt
echoes_by h t (p ∷ ps) le = (le, echoes_by h t ps le)

joined_by : (h : ℕ) (xs ys : List Queued) → ItemsBy h xs → ItemsBy h ys → ItemsBy h (xs ++ ys)
joined_by h [] ys a b = b
joined_by h (x ∷ xs) ys a b = (a.0, joined_by h xs ys a.1 b)

put_pick : (h : ℕ) (xs : List Queued) (q : Queued) (qs further : List Queued) (a b : Bool) → ItemsBy h xs → ItemsBy h (q ∷ qs) → ItemsBy h further → ItemsBy h (if a then q ∷ further else if b then xs ++ q ∷ qs else q ∷ further)
put_pick h xs q qs further true b front rest more = (rest.0, more)
put_pick h xs q qs further false true front rest more = joined_by h xs (q ∷ qs) front rest
put_pick h xs q qs further false false front rest more = (rest.0, more)

put_by : (h t : ℕ) (xs qs : List Queued) → ItemsBy h xs → ItemsBy h qs → ItemsBy h (put t xs qs)
put_by h t xs [] front rest = front
put_by h t xs (q ∷ qs) front rest = put_pick h xs q qs (put t xs qs) q.echoed (nat_le t q.moment) front rest (put_by h t xs qs front rest.1)

pub echo_by : (h t : ℕ) (bytes : List ℕ) (qs : List Queued) → t ≤ h → ItemsBy h qs → ItemsBy h (with_echo t bytes qs)
echo_by h t bytes qs le b = put_by h t (map echo (echoes t bytes)) qs (echoes_by h t (pieces bytes) le) b

-- at the start

blank_by : (n : ℕ) → LanesBy 0 (replicate n no_lane)
blank_by zero = tt
blank_by (suc n) = (tt, tt, blank_by n)

pub no_lanes_by : LanesBy 0 (replicate 16 no_lane)
no_lanes_by = blank_by 16
