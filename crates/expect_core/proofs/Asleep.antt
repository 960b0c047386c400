-- A call that waits goes on waiting where time passes no further than to its deadline.
use Rattle.std.proofs.Common.{◌≡◌, ℕ, zero, suc, ◌≤◌, List, [], ◌∷◌, max, min, Bool, true, false, Option, Some, None, inl, inr, refl, sym, ap, subst, ◌∙◌, arith}
use Rattle.std.proofs.lemmas.Bool.Decides.{nat_tests}
use Rattle.std.specs.Prelude.{nat_le, slice_get, if◌then◌else◌}
use Rattle.child_events.specs.declared.event.Event.TheVariants.{Tick}
use Rattle.child_events.specs.Queue.{Queued}
use Rattle.child_events.specs.Next.{IsEarliest, IsNext, IsSettled, next_of, Arrives, AllArrive}
use Rattle.child_events.proofs.Nexts.{next_is, stays_next}
use Rattle.tcl_subst.specs.Variables.{Variables}
use Rattle.tcl_host.specs.declared.host.HostStep.TheVariants.{Wait}
use Rattle.tcl_host.specs.Calls.{Call}
use Rattle.expect_core.specs.declared.lanes.Lane.{Lane}
use Rattle.expect_core.specs.declared.plan.Plan.{Plan}
use Rattle.expect_core.specs.declared.phase.Phase.{Phase}
use Rattle.expect_core.specs.declared.phase.Phase.TheVariants.{Idle, At}
use Rattle.expect_core.specs.declared.phase.Heard.{Heard}
use Rattle.expect_core.specs.declared.phase.Heard.TheVariants.{OverLimit, NotYet}
use Rattle.expect_core.specs.declared.turn.Want.{Want}
use Rattle.expect_core.specs.declared.turn.Want.TheVariants as want
use Rattle.expect_core.specs.declared.turn.Turn.{Turn}
use Rattle.expect_core.specs.declared.own.Own.{Own}
use Rattle.expect_core.specs.declared.dialogue.Dialogue.{Dialogue}
use Rattle.expect_core.specs.Lanes.{lane_of, Inbox, answer_box, item_box, with_left, with_items, offered}
use Rattle.expect_core.specs.Owned.{at_moment}
use Rattle.expect_core.specs.Heard.{watched, place_in, at_most, lapse, Listened, heard, heads, taken, on_next, listen_for, item_count, listen}
use Rattle.expect_core.specs.Answered.{Outcome, idle, failure}
use Rattle.expect_core.specs.Turns.{at}
use Rattle.expect_core.specs.Expecting.{ended}
use Rattle.expect_core.specs.Running.{over_limit, waits, answered, heard_as, concluded, on_come, awaited, waited_for, run, resuming}
use Rattle.expect_core.specs.Deadlines.{IsWithin, sooner, as_moment, soonest, deadline_under}
use Rattle.expect_core.specs.Laws.{WaitsOn}
use Rattle.expect_core.proofs.Times.{lapse_by}
use Rattle.expect_core.proofs.Resting.{NoItem, NoNext, Rests, RestsAt, WantRests, AsleepIn}
use Rattle.expect_core.proofs.LaneFacts.{IsInbox, of_answers, of_items, left_back}
use Rattle.expect_core.proofs.Calling.{MayAnswer}
use Rattle.expect_core.proofs.Steady.{steady_outcome}

-- time passes

at_most_later : (h m : ℕ) (last : Option ℕ) → at_most h last ≡ true → IsWithin m last → at_most (max h m) last ≡ true
at_most_later h m None e le = refl
at_most_later h m (Some d) e le = grind (arith, nat_tests)

both_within : (m : ℕ) (a b : Option ℕ) → IsWithin m (sooner a b) → IsWithin m a × IsWithin m b
both_within m None b le = (tt, le)
both_within m (Some x) None le = (le, tt)
both_within m (Some x) (Some y) le = (omega (arith, le), omega (arith, le))

within_deadline : (m : ℕ) (d : Option ℕ) → IsWithin m (as_moment d) → IsWithin m d
within_deadline m None le = tt
within_deadline m (Some d) le = least m d 18446744073709551615 le
  where
    least : (m d most : ℕ) → m ≤ min d most → m ≤ d
    least m d most le = omega (arith, le)

pub both_true : (a b c : Bool) (d : ℕ) → lapse_by a b c d ≡ NotYet → (a ≡ true) × (b ≡ true)
both_true true true c d e = (refl, refl)
both_true true false c d e = absurd (cc)
both_true false b true d e = absurd (cc)
both_true false b false d e = absurd (cc)

pub is_true : (b : Bool) → (if b then NotYet else OverLimit) ≡ NotYet → b ≡ true
is_true true e = refl
is_true false e = absurd (cc)

-- what has not run out doesn't run out by a moment that is in time
not_yet : (limit : Option ℕ) (h m : ℕ) (deadline : Option ℕ) → lapse limit h deadline ≡ NotYet → IsWithin m deadline → IsWithin m limit → lapse limit (max h m) deadline ≡ NotYet
not_yet limit h m None e le last =
    ap (λ (b : Bool). let v : Heard = (if b then NotYet else OverLimit) in v) (at_most_later h m limit (is_true (at_most h limit) e) last)
not_yet limit h m (Some d) e le last =
    let were = both_true (nat_le h d) (at_most h limit) (at_most d limit) d e in
    ap (λ (b : Bool). lapse_by b (at_most (max h m) limit) (at_most d limit) d) (at_most_later h m (Some d) were.0 le)
    ∙ ap (λ (b : Bool). lapse_by true b (at_most d limit) d) (at_most_later h m limit were.1 last)

-- the sooner moments of several
within_first : (m : ℕ) (first : Option ℕ) (ms : List (Option ℕ)) → IsWithin m (soonest first ms) → IsWithin m first
within_first m first [] le = le
within_first m first (x ∷ ms) le = (both_within m first x (within_first m (sooner first x) ms le)).0

some_same : (x : Option ℕ) (n : ℕ) → Some x ≡ Some (Some n) → x ≡ Some n
some_same x n e = cc

within_each : (m : ℕ) (first : Option ℕ) (ms : List (Option ℕ)) → IsWithin m (soonest first ms) → (j n : ℕ) → slice_get ms j ≡ Some (Some n) → m ≤ n
within_each m first [] le zero n e = absurd (let no : None ≡ Some (Some n) = e in cc)
within_each m first [] le (suc j) n e = absurd (let no : None ≡ Some (Some n) = e in cc)
within_each m first (x ∷ ms) le zero n e = subst (IsWithin m) (some_same x n e) (both_within m first x (within_first m (sooner first x) ms le)).1
within_each m first (x ∷ ms) le (suc j) n e = within_each m (sooner first x) ms le j n e

-- by a moment that none of several next items is before, nothing is settled that wasn't
module _ (hs : List (Option ℕ)) (h m : ℕ) (least : (j n : ℕ) → slice_get hs j ≡ Some (Some n) → m ≤ n) where
  settled_before : (j n : ℕ) → IsEarliest hs j n → IsSettled hs (max h m) n → IsSettled hs h n
  settled_before j n earliest settled =
      let le = least j n earliest.here in
      elim settled [ inl lt ↦ inl (omega (arith, le, lt)) | inr all ↦ inr all ]

  unsettled_by : next_of hs h ≡ None → (x : Option ℕ) → IsNext hs (max h m) x → x ≡ None
  unsettled_by none None is = refl
  unsettled_by none (Some j) is = absurd (subst (IsNext hs h) none (next_is hs h) j is.0 is.1 (settled_before j is.0 is.1 is.2))

  unsettled : next_of hs h ≡ None → next_of hs (max h m) ≡ None
  unsettled none = unsettled_by none (next_of hs (max h m)) (next_is hs (max h m))

same_arrives : (h : ℕ) (x : Option ℕ) → Arrives h x x
same_arrives h None = tt
same_arrives h (Some m) = refl

all_same : (h : ℕ) (hs : List (Option ℕ)) → AllArrive h hs hs
all_same h [] = tt
all_same h (x ∷ hs) = (same_arrives h x, all_same h hs)

module _ (limit : Option ℕ) (h m : ℕ) (p : Plan) (lanes : List Lane) where
  abbrev hs : List (Option ℕ)
  hs = heads (watched p) lanes

  rests_by : ((j n : ℕ) → slice_get hs j ≡ Some (Some n) → m ≤ n) → (x : Option ℕ) → next_of hs h ≡ x → NoNext limit p x lanes → Rests limit (max h m) p lanes
  rests_by least None is none = subst (λ (x : Option ℕ). NoNext limit p x lanes) (sym (unsettled hs h m least is)) tt
  rests_by least (Some n) is none = subst (λ (x : Option ℕ). NoNext limit p x lanes) (sym (stays_next h (max h m) hs hs (omega arith) (all_same h hs) n is)) none

  rests_on : ((j n : ℕ) → slice_get hs j ≡ Some (Some n) → m ≤ n) → Rests limit h p lanes → Rests limit (max h m) p lanes
  rests_on least rests = rests_by least (next_of hs h) refl rests

module _ (limit : Option ℕ) (h : ℕ) (p : Plan) (lanes : List Lane) (o : Own) (k : List Lane → Own → Listened) where
  still_taken : (i : ℕ) (qs : List Queued) → NoItem limit p.deadline qs → taken limit h p i qs lanes o k ≡ (lapse limit h p.deadline, lanes, o)
  still_taken i [] none = refl
  still_taken i (q ∷ qs) none =
      ap (λ (b : Bool). let r : Listened = (if b then heard p i q.item (with_items i qs lanes) (at_moment q.moment o) (k (with_items i qs lanes)) else (lapse limit h p.deadline, lanes, o)) in r) none

  still_next : (x : Option ℕ) → NoNext limit p x lanes → on_next limit h p x lanes o k ≡ (lapse limit h p.deadline, lanes, o)
  still_next None none = refl
  still_next (Some n) none = still_taken (place_in (watched p) n) (lane_of (place_in (watched p) n) lanes).items none

still : (limit : Option ℕ) (h : ℕ) (p : Plan) (lanes : List Lane) (o : Own) → Rests limit h p lanes → listen limit h p lanes o ≡ (lapse limit h p.deadline, lanes, o)
still limit h p lanes o rests = still_next limit h p lanes o (listen_for (item_count lanes) limit h p) (next_of (heads (watched p) lanes) h) rests

module _ {X Y : Type 0} (b : Inbox X Y) (is_box : IsInbox b) (n : ℕ) (w : Want) (i : ℕ) (made : Y → Own → Turn) (vars : Variables) (st : Dialogue) (m : ℕ) where
  abbrev later : Dialogue
  later = idle (offered (Tick m) st)

  still_awaited : RestsAt b i st → IsWithin m st.limit → awaited b (run n) n w i made vars later ≡ (Wait, vars, record (offered (Tick m) st) { phase = At n w })
  still_awaited rests le =
      let l : List X = b.read (lane_of i st.lanes) in
      ap (λ (first : Option (ℕ × Y) × List X). on_come (run n) n w made first.0 vars (record later { lanes = with_left b i first.1 st.lanes })) rests.0
      ∙ ap (λ (yet : Bool). if yet then waits n w vars (record later { lanes = with_left b i l st.lanes }) else over_limit vars (record later { lanes = with_left b i l st.lanes })) (at_most_later st.horizon m st.limit rests.1 le)
      ∙ ap (λ (ls : List Lane). waits n w vars (record later { lanes = ls })) (left_back b is_box i st.lanes)

goes_on : (n : ℕ) (w : Want) (st : Dialogue) (vars : Variables) (m : ℕ) → WantRests w st → IsWithin m (sooner (deadline_under (At n w) st.lanes) st.limit) → waited_for (run n) n w vars (idle (offered (Tick m) st)) ≡ (Wait, vars, record (offered (Tick m) st) { phase = At n w })
goes_on n (want.Answer i why) st vars m rests le = still_awaited answer_box of_answers n (want.Answer i why) i (λ a o. at i (answered why i a o)) vars st m rests le
goes_on n (want.Item i why) st vars m rests le = still_awaited item_box of_items n (want.Item i why) i (λ it o. at i (heard_as why i it)) vars st m rests le
goes_on n (want.End i p) st vars m rests le = still_awaited answer_box of_answers n (want.End i p) i (λ a o. ended p i (failure a) o) vars st m rests le
goes_on n (want.Output p) st vars m rests le =
    let later : Dialogue = idle (offered (Tick m) st) in
    let hs : List (Option ℕ) = heads (watched p) st.lanes in
    let times = both_within m (soonest (as_moment p.deadline) hs) st.limit le in
    let within = within_deadline m p.deadline (within_first m (as_moment p.deadline) hs times.0) in
    let still_rests = rests_on st.limit st.horizon m p st.lanes (within_each m (as_moment p.deadline) hs times.0) rests.0 in
    ap (λ (r : Listened). concluded (run n) n p r vars later) (still st.limit (max st.horizon m) p st.lanes st.own still_rests)
    ∙ ap (λ (v : Heard). concluded (run n) n p (v, st.lanes, st.own) vars later) (not_yet st.limit st.horizon m p.deadline rests.1 within times.1)

waiting : (f : Phase) (st : Dialogue) (vars : Variables) (m : ℕ) → AsleepIn f st → IsWithin m (sooner (deadline_under f st.lanes) st.limit) → resuming f vars (idle (offered (Tick m) st)) ≡ (Wait, vars, record (offered (Tick m) st) { phase = f })
waiting Idle st vars m asleep le = absurd asleep
waiting (At n w) st vars m asleep le = goes_on n w st vars m asleep le

abbrev AsleepAfter : Call → Outcome → Type 0
AsleepAfter call (s, vars, st) = MayAnswer s call st

pub waits_on : WaitsOn
waits_on call st vars new e m le = waiting new.phase new vars m (subst (AsleepAfter call) e (steady_outcome call st).1) le
