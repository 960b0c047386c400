-- A turn of a wait for patterns of several children.
use Rattle.std.proofs.Common.{◌≡◌, ℕ, zero, suc, ◌<◌, List, [], ◌∷◌, length, Bool, Option, Some, None, refl, sym, ap, subst, ◌∙◌, arith}
use Rattle.std.specs.Prelude.{slice_index_or, slice_set, if◌then◌else◌}
use Rattle.child_events.specs.declared.event.Item.{Item}
use Rattle.child_events.specs.Queue.{Queued}
use Rattle.expect_core.specs.declared.lanes.Lane.{Lane}
use Rattle.expect_core.specs.declared.listen.Times.{Times}
use Rattle.expect_core.specs.Lanes.{no_lane, lane_of, with_lane, with_items}
use Rattle.expect_core.specs.Hearing.{NoneInTime, Takes, goes, turns, TakesFrom, turned, IsFewer, at_child}
use Rattle.child_events.specs.Next.{next_of}
use Rattle.expect_core.specs.declared.plan.Plan.{Plan}
use Rattle.expect_core.specs.declared.phase.Heard.{Heard}
use Rattle.expect_core.specs.declared.own.Own.{Own}
use Rattle.expect_core.specs.Owned.{at_moment}
use Rattle.expect_core.specs.Heard.{Watch, watched, lapse, Listened, heard, heads, taken, on_next, listen_for, item_count, listen}
use Rattle.expect_core.proofs.Listening.{fewer, enough}

-- what stands in a list doesn't depend on what stands for the rest
pub in_list : {X : Type 0} (xs : List X) (i : ℕ) (d d' : X) → i < length xs → slice_index_or xs i d ≡ slice_index_or xs i d'
in_list [] i d d' lt = absurd (let no : i < 0 = lt in omega arith)
in_list (x ∷ xs) zero d d' lt = refl
in_list (x ∷ xs) (suc i) d d' lt = in_list xs i d d' (omega (arith, lt))

pub lane_back : (i : ℕ) (lanes : List Lane) → with_lane i (lane_of i lanes) lanes ≡ lanes
lane_back i [] = refl
lane_back zero (l ∷ ls) = refl
lane_back (suc i) (l ∷ ls) = ap (λ (ls : List Lane). l ∷ ls) (lane_back i ls)

pub takes_from : (times : Times) (d : Option ℕ) (i : ℕ) (old : List Lane) (lane : Lane) (items : List Queued) (r : Option (ℕ × Item)) → lane ≡ lane_of i old → Takes times d lane.items r items → TakesFrom times d i old r (with_lane i (record lane { items = items }) old)
takes_from times d i old lane items None is t = (
  ap (λ (qs : List Queued). with_lane i (record lane { items = qs }) old) t.0 ∙ ap (λ (l : Lane). with_lane i l old) is ∙ lane_back i old,
  subst (λ (l : Lane). NoneInTime times d l.items) is t.1,
)
takes_from times d i old lane items (Some x) is t =
    (t.0, items, ap (λ (l : Lane). l.items) (sym is) ∙ t.1, ap (λ (l : Lane). with_lane i (record l { items = items }) old) is, t.2, t.3)

heads_length : (ws : List Watch) (lanes : List Lane) → length (heads ws lanes) ≡ length ws
heads_length [] lanes = refl
heads_length (w ∷ ws) lanes = ap suc (heads_length ws lanes)

-- what is picked is one of those that take part
pub is_side : (ws : List Watch) (lanes : List Lane) (found : List (Option ℕ)) (n : ℕ) → found ≡ heads ws lanes → n < length found → n < length ws
is_side ws lanes found n e lt = let same = heads_length ws lanes in let there = ap length e in omega (arith, same, there, lt)

module _ (times : Times) (p : Plan) (lanes : List Lane) (o : Own) (k : List Lane → Own → Listened) where
  pub turned_none : (found : List (Option ℕ)) → found ≡ heads (watched p) lanes → None ≡ next_of found times.horizon → turned times p lanes o k ≡ at_child times p None lanes o k
  turned_none found e none = ap (λ (x : Option ℕ). on_next times.limit times.horizon p x lanes o k) (ap (λ (hs : List (Option ℕ)). next_of hs times.horizon) (sym e) ∙ sym none)

  pub turned_some : (found : List (Option ℕ)) (n : ℕ) (w : Watch) → found ≡ heads (watched p) lanes → Some n ≡ next_of found times.horizon → n < length found → w ≡ slice_index_or (watched p) n w → turned times p lanes o k ≡ at_child times p (Some w.0) lanes o k
  turned_some found n w e some lt is =
      ap (λ (x : Option ℕ). on_next times.limit times.horizon p x lanes o k) (ap (λ (hs : List (Option ℕ)). next_of hs times.horizon) (sym e) ∙ sym some)
      ∙ ap (λ (w : Watch). at_child times p (Some w.0) lanes o k) (sym (is ∙ in_list (watched p) n w (16, []) (is_side (watched p) lanes found n e lt)))

  none_in_time : (i : ℕ) (qs : List Queued) → NoneInTime times p.deadline qs → taken times.limit times.horizon p i qs lanes o k ≡ (lapse times.limit times.horizon p.deadline, lanes, o)
  none_in_time i [] out = refl
  none_in_time i (q ∷ qs) out =
      ap (λ (b : Bool). if b then heard p i q.item (with_items i qs lanes) (at_moment q.moment o) (k (with_items i qs lanes)) else (let r : Listened = (lapse times.limit times.horizon p.deadline, lanes, o) in r)) out

  pub not_taken : (i : ℕ) (new : List Lane) → TakesFrom times p.deadline i lanes None new → at_child times p (Some i) lanes o k ≡ (lapse times.limit times.horizon p.deadline, new, o)
  not_taken i new t = none_in_time i (lane_of i lanes).items t.1 ∙ ap (λ (ls : List Lane). let r : Listened = (lapse times.limit times.horizon p.deadline, ls, o) in r) (sym t.0)

  pub item_taken : (i m : ℕ) (it : Item) (new : List Lane) → TakesFrom times p.deadline i lanes (Some (m, it)) new → at_child times p (Some i) lanes o k ≡ heard p i it new (at_moment m o) (k new)
  item_taken i m it new t =
      ap (λ (qs : List Queued). taken times.limit times.horizon p i qs lanes o k) t.2
      ∙ ap (λ (b : Bool). if b then heard p i t.0.item (with_items i t.1 lanes) (at_moment t.0.moment o) (k (with_items i t.1 lanes)) else (let r : Listened = (lapse times.limit times.horizon p.deadline, lanes, o) in r)) t.5
      ∙ ap (λ (ls : List Lane). heard p i t.0.item ls (at_moment t.0.moment o) (k ls)) (sym t.3)
      ∙ ap (λ (x : ℕ × Item). heard p i x.1 new (at_moment x.0 o) (k new)) t.4

pub one_fewer : (times : Times) (d : Option ℕ) (i : ℕ) (x : ℕ × Item) (old new : List Lane) → TakesFrom times d i old (Some x) new → item_count new < item_count old
one_fewer times d i x old new t =
    let less = fewer i t.0 t.1 old t.2 in
    let same = ap item_count t.3 in
    omega (arith, less, same)

-- a turn that goes on leaves the wait as it is
pub listens_still : (times : Times) (p : Plan) (old new : List Lane) (o o' : Own) → ((k : List Lane → Own → Listened) → turned times p old o k ≡ k new o') → item_count new < item_count old → listen times.limit times.horizon p new o' ≡ listen times.limit times.horizon p old o
listens_still times p old new o o' goes less =
    sym (
    goes (listen_for (item_count old) times.limit times.horizon p)
    ∙ enough times.limit times.horizon p (item_count old) (suc (item_count new)) new o' less (omega arith)
    )

pub fewer_some : (r : Option Heard) (old new : List Lane) → item_count new < item_count old → IsFewer r old new
fewer_some None old new lt = lt
fewer_some (Some c) old new lt = tt

pub turns_heard : (times : Times) (p : Plan) (i : ℕ) (it : Item) (lanes new : List Lane) (o o' o'' : Own) (r : Option Heard)
    → ((o : Own) (k : List Lane → Own → Listened) → turned times p lanes o k ≡ at_child times p (Some i) lanes o k)
    → (m : ℕ) → TakesFrom times p.deadline i lanes (Some (m, it)) new → o' ≡ at_moment m o
    → ((lanes : List Lane) (k : Own → Listened) → heard p i it lanes o' k ≡ goes r lanes o'' k)
    → (k : List Lane → Own → Listened) → turned times p lanes o k ≡ turns r new o'' k
turns_heard times p i it lanes new o o' o'' r next m t clock hears k =
    next o k ∙ item_taken times p lanes o k i m it new t
    ∙ ap (λ (o : Own). heard p i it new o (k new)) (sym clock)
    ∙ hears new (k new)
    ∙ goes_turns r
  where
    goes_turns : (r : Option Heard) → goes r new o'' (k new) ≡ turns r new o'' k
    goes_turns None = refl
    goes_turns (Some c) = refl

pub takes_at : (times : Times) (d : Option ℕ) (i n : ℕ) (old inside : List Lane) (lane : Lane) (items : List Queued) (r : Option (ℕ × Item)) → inside ≡ old → n ≡ i → n < length inside → lane ≡ slice_index_or inside n lane → Takes times d lane.items r items → TakesFrom times d i old r (slice_set inside n (record lane { items = items }))
takes_at times d i n old inside lane items r same at lt is t =
    subst (λ (ls : List Lane). TakesFrom times d i ls r (slice_set inside n (record lane { items = items }))) same
    (subst (λ (j : ℕ). TakesFrom times d j inside r (slice_set inside n (record lane { items = items }))) at
    (takes_from times d n inside lane items r (is ∙ in_list inside n lane no_lane lt) t))

pub listens_on : (times : Times) (p : Plan) (old new : List Lane) (o o' : Own) (r : Option Heard) → r ≡ None → ((k : List Lane → Own → Listened) → turned times p old o k ≡ turns r new o' k) → IsFewer r old new → listen times.limit times.horizon p new o' ≡ listen times.limit times.horizon p old o
listens_on times p old new o o' None none goes less = listens_still times p old new o o' goes less
listens_on times p old new o o' (Some c) none goes less = absurd cc
