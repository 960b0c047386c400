-- After each call nothing is later than the greatest moment.
use Rattle.std.proofs.Common.{◌≡◌, ℕ, ◌≤◌, List, ◌∷◌, Option, Some, None, subst, arith}
use Rattle.std.specs.Prelude.{nat_lt, length}
use Rattle.child_events.specs.declared.event.Answer.{Answer}
use Rattle.child_events.specs.Queue.{Queued}
use Rattle.tty.specs.Sends.{echo_of}
use Rattle.tcl_subst.specs.Variables.{Variables}
use Rattle.tcl_host.specs.Calls.{Call}
use Rattle.expect_core.specs.declared.lanes.Lane.{Lane}
use Rattle.expect_core.specs.declared.plan.Plan.{Plan}
use Rattle.expect_core.specs.declared.effect.Effect.{Effect}
use Rattle.expect_core.specs.declared.effect.Effect.TheVariants.{Log, Add, Receive}
use Rattle.expect_core.specs.declared.own.Own.{Own}
use Rattle.expect_core.specs.declared.settings.Settings.{Settings}
use Rattle.expect_core.specs.declared.dialogue.Dialogue.{Dialogue}
use Rattle.expect_core.specs.Lanes.{lane_of, with_items, with_answers, no_lanes}
use Rattle.expect_core.specs.Owned.{child_of, told, received, at_moment, seen}
use Rattle.expect_core.specs.Effects.{changed, performed}
use Rattle.expect_core.specs.Sending.{typed}
use Rattle.expect_core.specs.Heard.{listen, look}
use Rattle.expect_core.specs.Answered.{Outcome, owning}
use Rattle.expect_core.specs.Calls.{outcome, fresh}
use Rattle.expect_core.specs.Good.{ItemsBy, AnswersBy, LanesBy, Good}
use Rattle.expect_core.proofs.Keeping.{Kept as WaitKept, wait_keeps}
use Rattle.expect_core.proofs.Moments.{items_by, answers_by, with_items_by, with_answers_by, echo_by, no_lanes_by}
use Rattle.expect_core.proofs.Stepping.{Kept}
use Rattle.expect_core.proofs.Calling.{pick}
use Rattle.expect_core.proofs.Steady.{Any, any_performs, any_outcome}

abbrev pub GoodAfter : Outcome → Type 0
GoodAfter (step, vars, st) = Good st

-- nothing in lanes and clock is later than this
abbrev pub GoodIn : ℕ → List Lane → Own → Type 0
GoodIn h lanes o = LanesBy h lanes × (o.clock ≤ h)

-- the clock stays
same_clock : (at : Option ℕ) (x : Effect) (o : Own) (h : ℕ) → o.clock ≤ h → (changed at x o).clock ≤ h
same_clock None (Log text) o h le = pick (λ (o : Own). o.clock ≤ h) o.log_user _ _ le le
same_clock None (Add modes) o h le = pick (λ (o : Own). o.clock ≤ h) (nat_lt (length o.children) 16) _ _ le le
same_clock None _ o h le = le
same_clock (Some i) (Log text) o h le = pick (λ (o : Own). o.clock ≤ h) o.log_user _ _ le le
same_clock (Some i) (Add modes) o h le = pick (λ (o : Own). o.clock ≤ h) (nat_lt (length o.children) 16) _ _ le le
same_clock (Some i) (Receive piece) o h le = pick (λ (o : Own). o.clock ≤ h) o.log_user (told (seen i piece o) o) o le le
same_clock (Some i) _ o h le = le

pub answer_good : (i : ℕ) (a : ℕ × Answer) (l : List (ℕ × Answer)) (st : Dialogue) → (lane_of i st.lanes).answers ≡ a ∷ l → Good st → Good (record st { lanes = with_answers i l st.lanes; own = at_moment a.0 st.own })
answer_good i a l st is g =
    let by : AnswersBy st.horizon (a ∷ l) = subst (AnswersBy st.horizon) is (answers_by st.horizon i st.lanes g.lanes) in
    record { clock = omega (arith, g.clock, by.0); lanes = with_answers_by st.horizon i l st.lanes g.lanes by.1 }

taken_good : (h i : ℕ) (q : Queued) (qs : List Queued) (lanes : List Lane) (o : Own) → (lane_of i lanes).items ≡ q ∷ qs → GoodIn h lanes o → GoodIn h (with_items i qs lanes) (at_moment q.moment o)
taken_good h i q qs lanes o is k =
    let by : ItemsBy h (q ∷ qs) = subst (ItemsBy h) is (items_by h i lanes k.0) in
    (with_items_by h i qs lanes k.0 by.1, omega (arith, by.0, k.1))

pub item_good : (i : ℕ) (q : Queued) (qs : List Queued) (st : Dialogue) → (lane_of i st.lanes).items ≡ q ∷ qs → Good st → Good (record st { lanes = with_items i qs st.lanes; own = at_moment q.moment st.own })
item_good i q qs st is g = let t = taken_good st.horizon i q qs st.lanes st.own is (g.lanes, g.clock) in record { clock = t.1; lanes = t.0 }

received_good : (h i : ℕ) (piece : List ℕ) (lanes : List Lane) (o : Own) → GoodIn h lanes o → GoodIn h lanes (received i piece o)
received_good h i piece lanes o k = (k.0, pick (λ (o : Own). o.clock ≤ h) o.log_user (told (seen i piece o) o) o k.1 k.1)

pub typed_good : (i : ℕ) (text : List ℕ) (st : Dialogue) → Good st → Good (typed i text st)
typed_good i text st g = record {
  clock = g.clock;
  lanes = with_items_by st.horizon i _ st.lanes g.lanes (echo_by st.horizon st.own.clock (echo_of (child_of i st.own).line text) (lane_of i st.lanes).items g.clock (items_by st.horizon i st.lanes g.lanes));
}

pub waits_good : (p : Plan) (st : Dialogue) → Good st → let Fine = WaitKept st.limit st.horizon p (GoodIn st.horizon) in Fine (look st.limit st.horizon p st.lanes st.own) × Fine (listen st.limit st.horizon p st.lanes st.own)
waits_good p st g =
    let h = st.horizon in
    wait_keeps st.limit h p (GoodIn h) (λ i w lanes o k. k) (λ i w piece lanes o k. received_good h i piece lanes o k) (λ i w q qs lanes o is k. taken_good h i q qs lanes o is k) st.lanes st.own (g.lanes, g.clock)

goodness : Kept Any Good
goodness = record {
  does = λ at x st a g. record { clock = same_clock at x st.own st.horizon g.clock; lanes = g.lanes };
  holds = λ p st a g. record { clock = g.clock; lanes = g.lanes };
  reads = λ st g. record { clock = g.clock; lanes = g.lanes };
  pops = λ st g. record { clock = g.clock; lanes = g.lanes };
  types = λ i text st a g. typed_good i text st g;
  trims = λ i st a g. record { clock = g.clock; lanes = g.lanes };
  receives = λ i piece st a g. record { clock = (received_good st.horizon i piece st.lanes st.own (g.lanes, g.clock)).1; lanes = g.lanes };
  takes = λ i q qs st a is g. item_good i q qs st is g;
  answers = λ i x l st a is g. answer_good i x l st is g;
  times = λ d st le g. record { clock = le; lanes = g.lanes };
}

pub performed_good : (at : Option ℕ) (xs : List Effect) (vars : Variables) (st : Dialogue) → Good st → Good (owning (performed at xs vars st.own).2 st)
performed_good at xs vars st g = any_performs Good goodness at xs vars st g

pub outcome_good : (call : Call) (st : Dialogue) → Good st → GoodAfter (outcome call st)
outcome_good call st g = let new = (any_outcome Good goodness call st (record { clock = g.clock; lanes = g.lanes })).0 in record { clock = new.clock; lanes = new.lanes }

pub good_fresh : (settings : Settings) → Good (fresh settings)
unfolding no_lanes
good_fresh settings = record { clock = omega arith; lanes = no_lanes_by }
