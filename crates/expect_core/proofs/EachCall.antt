-- Each call with an event more comes to what it came to, or goes on where it waited.
use Rattle.std.proofs.Common.{◌≡◌, ℕ, zero, suc, ◌<◌, List, [], ◌∷◌, ◌++◌, length, Bool, true, false, Option, Some, None, ◌⊎◌, inl, inr, refl, sym, ap, ◌∙◌, max, arith}
use Rattle.std.specs.Prelude.{if◌then◌else◌}
use Rattle.child_events.specs.declared.event.Answer.{Answer}
use Rattle.child_events.specs.declared.event.Item.{Item}
use Rattle.child_events.specs.declared.event.Event.{Event}
use Rattle.child_events.specs.World.{moment_of}
use Rattle.tty.specs.Sends.{handed_by, line_after, echo_of}
use Rattle.tcl_subst.specs.Variables.{Variables}
use Rattle.tcl_results.specs.Said.{Said}
use Rattle.tcl_host.specs.declared.host.HostStep.TheVariants as step
use Rattle.tcl_host.specs.declared.ending.Ending.TheVariants.{TimeLimit}
use Rattle.tcl_host.specs.Calls.{Call, Begin, Resume, AfterWords, AfterBody, Knows}
use Rattle.expect_core.specs.declared.lanes.Lane.{Lane}
use Rattle.command_table.specs.declared.commands.ExpectCommand.{ExpectCommand}
use Rattle.command_table.specs.Commands.{expect_command}
use Rattle.expect_core.specs.declared.plan.Plan.{Plan}
use Rattle.expect_core.specs.declared.phase.Phase.{Phase}
use Rattle.expect_core.specs.declared.phase.Phase.TheVariants.{Idle, At}
use Rattle.expect_core.specs.declared.phase.Heard.TheVariants.{Match, Full, TimedOut, OverLimit, NotYet, Ended, Failed}
use Rattle.expect_core.specs.declared.turn.Deed.{Deed}
use Rattle.expect_core.specs.declared.turn.Reply.{Reply}
use Rattle.expect_core.specs.declared.turn.Reply.TheVariants.{Done, Fail}
use Rattle.expect_core.specs.declared.turn.Want.{Want}
use Rattle.expect_core.specs.declared.turn.Want.TheVariants as want
use Rattle.expect_core.specs.declared.turn.Stage.{Stage}
use Rattle.expect_core.specs.declared.turn.Stage.TheVariants.{Over, Act, Look, Read, Send as SendText, Wait}
use Rattle.expect_core.specs.declared.turn.Turn.{Turn}
use Rattle.expect_core.specs.declared.own.Own.{Own}
use Rattle.expect_core.specs.declared.dialogue.Dialogue.{Dialogue}
use Rattle.expect_core.specs.Lanes.{lane_of, Inbox, answer_box, item_box, with_left, arrived, offered}
use Rattle.expect_core.specs.Owned.{child_of, with_line, at_moment}
use Rattle.expect_core.specs.Heard.{at_most, Listened, listen, look}
use Rattle.expect_core.specs.Good.{Good}
use Rattle.expect_core.specs.Answered.{Outcome, idle, owning, failure, first_of}
use Rattle.expect_core.specs.Effects.{Performed, performed}
use Rattle.expect_core.specs.Turns.{at, doing}
use Rattle.expect_core.specs.Sending.{typed, handing}
use Rattle.expect_core.specs.Expecting.{behind, ended}
use Rattle.expect_core.specs.Running.{To, step_of, answered, heard_as, concluded, on_come, awaited, waited_for, staged, turned, run, turns, resuming}
use Rattle.expect_core.specs.Calls.{named, worded, filling, filled, began, begun, outer, outcome, onward, resumed}
use Rattle.expect_core.proofs.Times.{past}
use Rattle.expect_core.proofs.LaneFacts.{IsBeyond, within, IsInbox, of_answers, of_items, left_twice}
use Rattle.expect_core.proofs.Growing.{IsLaterIn, More, as_more, more_items, more_answers, Fits, more_there}
use Rattle.expect_core.proofs.Listening.{on_more, listen_more, look_more}
use Rattle.expect_core.proofs.Echoes.{echoed_onward}
use Rattle.expect_core.proofs.Goodness.{answer_good, item_good, typed_good, performed_good, GoodIn, waits_good}
use Rattle.expect_core.proofs.Keeping.{Kept as WaitKept}

module _ (e : Event) where
  -- what follows is the same with an event more
  abbrev Goes : To → Type 0
  Goes to = (t : Turn) (vars : Variables) (st : Dialogue) → Good (idle st) → to t vars (offered e (idle st)) ≡ onward e (to t vars (idle st))

  -- waits for a pattern

  module _ (n : ℕ) (goes : Goes (run n)) (p : Plan) (vars : Variables) (st : Dialogue) where
    abbrev h : ℕ
    h = max st.horizon (moment_of e)

    -- what a wait for a pattern leaves is no later than the horizon
    abbrev Fine : Listened → Type 0
    Fine r = WaitKept st.limit st.horizon p (GoodIn st.horizon) r

    concluded_onward : (r : Listened) → Fine r → concluded (run n) n p (on_more e st.limit h p r) vars (offered e (idle st)) ≡ onward e (concluded (run n) n p r vars (idle st))
    concluded_onward (NotYet, lanes, o) fine = refl
    concluded_onward (OverLimit, lanes, o) fine = refl
    concluded_onward (TimedOut d, lanes, o) fine = goes _ vars (record st { lanes = lanes; own = record o { clock = d } }) (record { clock = fine.2; lanes = fine.0.0 })
    concluded_onward (Match i m spans, lanes, o) fine = goes _ vars (record st { lanes = lanes; own = o }) (record { clock = fine.0.1; lanes = fine.0.0 })
    concluded_onward (Full i, lanes, o) fine = goes _ vars (record st { lanes = lanes; own = o }) (record { clock = fine.0.1; lanes = fine.0.0 })
    concluded_onward (Ended i, lanes, o) fine = goes _ vars (record st { lanes = lanes; own = o }) (record { clock = fine.0.1; lanes = fine.0.0 })
    concluded_onward (Failed i c, lanes, o) fine = goes _ vars (record st { lanes = lanes; own = o }) (record { clock = fine.0.1; lanes = fine.0.0 })

    listening_onward : Good (idle st) → waited_for (run n) n (want.Output p) vars (offered e (idle st)) ≡ onward e (waited_for (run n) n (want.Output p) vars (idle st))
    listening_onward g =
        ap (λ (r : Listened). concluded (run n) n p r vars (offered e (idle st))) (listen_more e st.limit st.horizon h p (omega arith) st.lanes st.own)
        ∙ concluded_onward (listen st.limit st.horizon p st.lanes st.own) (waits_good p (idle st) g).1

    looking_onward : Good (idle st) → staged (run n) n (Look p) vars (offered e (idle st)) ≡ onward e (staged (run n) n (Look p) vars (idle st))
    looking_onward g =
        ap (λ (r : Listened). concluded (run n) n p r vars (offered e (idle st))) (look_more e st.limit st.horizon h p (omega arith) st.lanes st.own)
        ∙ concluded_onward (look st.limit st.horizon p st.lanes st.own) (waits_good p (idle st) g).0

  -- waits for what comes next from a child

  module _ {X Y : Type 0} (b : Inbox X Y) (is_box : IsInbox b)
      (more_of : (i m : ℕ) (lanes : List Lane) → More b i m lanes (arrived e m lanes) (arrived e m))
      (taken_good : (i : ℕ) (x : X) (l : List X) (st : Dialogue) → b.read (lane_of i st.lanes) ≡ x ∷ l → Good st → Good (record st { lanes = with_left b i l st.lanes; own = at_moment (b.stamp x).0 st.own }))
      (n : ℕ) (goes : Goes (run n)) (w : Want) (i : ℕ) (made : Y → Own → Turn) (vars : Variables) (st : Dialogue) (g : Good (idle st))
      (waits : (st : Dialogue) → waited_for (run n) n w vars st ≡ awaited b (run n) n w i made vars st) where
    abbrev First : Type 0
    First = Option (ℕ × Y) × List X

    abbrev now : ℕ
    now = max st.horizon (moment_of e)

    abbrev after : List Lane
    after = arrived e now st.lanes

    more : More b i now st.lanes after (arrived e now)
    more = more_of i now st.lanes

    -- what comes first comes to this
    abbrev come : First → Dialogue → Outcome
    come x st' = on_come (run n) n w made x.0 vars (record st' { lanes = with_left b i x.1 st'.lanes })

    -- a call that waits, with so much left
    abbrev suspended : List X → Dialogue
    suspended left = record st { lanes = with_left b i left st.lanes; phase = At n w }

    abbrev waiting_or_over : Bool → Dialogue → Outcome
    waiting_or_over yet st' = if yet then (step.Wait, vars, record st' { phase = At n w }) else (step.Stop TimeLimit, vars, st')

    lanes_same : (left l : List X) → with_left b i l after ≡ with_left b i l (arrived e now (with_left b i left st.lanes))
    lanes_same left l = sym (left_twice b is_box i (left ++ more.more) l after) ∙ ap (with_left b i l) (more.put left)

    same_by : (left : List X) (x : First) → come x (offered e (idle st)) ≡ come x (idle (offered e (suspended left)))
    same_by left x = ap (λ (ls : List Lane). on_come (run n) n w made x.0 vars (record (offered e (idle st)) { lanes = ls })) (lanes_same left x.1)

    -- it goes on with what is left and what came
    goes_on : (left : List X) → Fits i left st.lanes → come (first_of b st.limit (left ++ more.more)) (offered e (idle st)) ≡ resumed vars (offered e (suspended left))
    goes_on left fits =
        same_by left (first_of b st.limit (left ++ more.more))
        ∙ ap (λ (l : List X). come (first_of b st.limit l) (idle (offered e (suspended left)))) (sym (more_there b is_box i e now st.lanes more left fits))
        ∙ sym (waits (idle (offered e (suspended left))))

    none_left : (left : List X) → Fits i left st.lanes → (yet : Bool) → at_most st.horizon st.limit ≡ yet → (yet ≡ false → first_of b st.limit (left ++ more.more) ≡ (None, left ++ more.more)) →
        come (first_of b st.limit (left ++ more.more)) (offered e (idle st)) ≡ onward e (come (None, left) (idle st))
    none_left left fits true same none =
        goes_on left fits ∙ sym (ap (λ (yet : Bool). onward e (waiting_or_over yet (record (idle st) { lanes = with_left b i left st.lanes }))) same)
    none_left left fits false same none =
        ap (λ (x : First). come x (offered e (idle st))) (none refl)
        ∙ ap (λ (yet : Bool). waiting_or_over yet (record (offered e (idle st)) { lanes = with_left b i (left ++ more.more) after })) (past st.limit st.horizon now same (omega arith))
        ∙ ap (λ (ls : List Lane). waiting_or_over false (record (offered e (idle st)) { lanes = ls })) (more.put left)
        ∙ sym (ap (λ (yet : Bool). onward e (waiting_or_over yet (record (idle st) { lanes = with_left b i left st.lanes }))) same)

    late : (l : List X) → IsLaterIn b now l → at_most st.horizon st.limit ≡ false → first_of b st.limit l ≡ (None, l)
    late [] later out = refl
    late (x ∷ l) later out = ap (λ (yet : Bool). let r : First = (if yet then (Some (b.stamp x), l) else (None, x ∷ l)) in r) (past st.limit st.horizon (b.stamp x).0 out (omega (arith, later)))

    first_by : (x : X) (l : List X) → b.read (lane_of i st.lanes) ≡ x ∷ l → Fits i (x ∷ l) st.lanes → (yet : Bool) → at_most (b.stamp x).0 st.limit ≡ yet →
        come (first_of b st.limit (x ∷ l ++ more.more)) (offered e (idle st)) ≡ onward e (come (first_of b st.limit (x ∷ l)) (idle st))
    first_by x l is fits true same =
        let m = (b.stamp x).0 in
        let y = (b.stamp x).1 in
        ap (λ (yet : Bool). come (let r : First = (if yet then (Some (b.stamp x), l ++ more.more) else (None, x ∷ l ++ more.more)) in r) (offered e (idle st))) same
        ∙ ap (λ (ls : List Lane). run n (made y (at_moment m st.own)) vars (owning (at_moment m st.own) (record (offered e (idle st)) { lanes = ls }))) (more.put l)
        ∙ goes (made y (at_moment m st.own)) vars (record st { lanes = with_left b i l st.lanes; own = at_moment m st.own }) (taken_good i x l (idle st) is g)
        ∙ sym (ap (λ (yet : Bool). onward e (come (let r : First = (if yet then (Some (b.stamp x), l) else (None, x ∷ l)) in r) (idle st))) same)
    first_by x l is fits false same =
        none_left (x ∷ l) fits (at_most st.horizon st.limit) refl (λ n. ap (λ (yet : Bool). let r : First = (if yet then (Some (b.stamp x), l ++ more.more) else (None, x ∷ l ++ more.more)) in r) same)
        ∙ sym (ap (λ (yet : Bool). onward e (come (let r : First = (if yet then (Some (b.stamp x), l) else (None, x ∷ l)) in r) (idle st))) same)

    by_left : (l : List X) → b.read (lane_of i st.lanes) ≡ l → Fits i l st.lanes → come (first_of b st.limit (l ++ more.more)) (offered e (idle st)) ≡ onward e (come (first_of b st.limit l) (idle st))
    by_left [] is fits = none_left [] fits (at_most st.horizon st.limit) refl (λ out. late more.more more.later out)
    by_left (x ∷ l) is fits = first_by x l is fits (at_most (b.stamp x).0 st.limit) refl

    fitting : (i < length st.lanes) ⊎ IsBeyond i st.lanes → Fits i (b.read (lane_of i st.lanes)) st.lanes
    fitting (inl lt) = inl lt
    fitting (inr beyond) = inr (beyond, ap b.read beyond.none ∙ is_box.none)

    awaited_onward : awaited b (run n) n w i made vars (offered e (idle st)) ≡ onward e (awaited b (run n) n w i made vars (idle st))
    awaited_onward =
        ap (λ (l : List X). come (first_of b st.limit l) (offered e (idle st))) more.read
        ∙ by_left (b.read (lane_of i st.lanes)) refl (fitting (within i st.lanes))

  answer_onward : (n : ℕ) → Goes (run n) → (w : Want) (i : ℕ) (made : Answer → Own → Turn) (vars : Variables) (st : Dialogue) → Good (idle st) → ((st : Dialogue) → waited_for (run n) n w vars st ≡ awaited answer_box (run n) n w i made vars st) →
      awaited answer_box (run n) n w i made vars (offered e (idle st)) ≡ onward e (awaited answer_box (run n) n w i made vars (idle st))
  answer_onward n goes w i made vars st g waits = awaited_onward answer_box of_answers (λ i m lanes. more_answers i m lanes e) answer_good n goes w i made vars st g waits

  item_onward : (n : ℕ) → Goes (run n) → (w : Want) (i : ℕ) (made : Item → Own → Turn) (vars : Variables) (st : Dialogue) → Good (idle st) → ((st : Dialogue) → waited_for (run n) n w vars st ≡ awaited item_box (run n) n w i made vars st) →
      awaited item_box (run n) n w i made vars (offered e (idle st)) ≡ onward e (awaited item_box (run n) n w i made vars (idle st))
  item_onward n goes w i made vars st g waits =
      awaited_onward item_box of_items (λ i m lanes. as_more i m lanes (arrived e m lanes) (arrived e m) (more_items i m lanes e)) item_good n goes w i made vars st g waits

  waited_onward : (n : ℕ) → Goes (run n) → (w : Want) (vars : Variables) (st : Dialogue) → Good (idle st) → waited_for (run n) n w vars (offered e (idle st)) ≡ onward e (waited_for (run n) n w vars (idle st))
  waited_onward n goes (want.Answer i why) vars st g = answer_onward n goes (want.Answer i why) i (λ a o. at i (answered why i a o)) vars st g (λ st. refl)
  waited_onward n goes (want.Item i why) vars st g = item_onward n goes (want.Item i why) i (λ it o. at i (heard_as why i it)) vars st g (λ st. refl)
  waited_onward n goes (want.End i p) vars st g = answer_onward n goes (want.End i p) i (λ a o. ended p i (failure a) o) vars st g (λ st. refl)
  waited_onward n goes (want.Output p) vars st g = listening_onward n goes p vars st g

  -- turns

  over_onward : (reply : Reply) (vars : Variables) (st : Dialogue) → (let r : Outcome = (step_of reply, vars, offered e st) in r) ≡ onward e (step_of reply, vars, st)
  over_onward (Done c value) vars st = refl
  over_onward (Fail text) vars st = refl

  staged_onward : (n : ℕ) → Goes (run n) → (s : Stage) (vars : Variables) (st : Dialogue) → Good (idle st) → staged (run n) n s vars (offered e (idle st)) ≡ onward e (staged (run n) n s vars (idle st))
  staged_onward n goes (Over reply) vars st g = over_onward reply vars (idle st)
  staged_onward n goes (Act p m) vars st g = refl
  staged_onward n goes (Read script) vars st g = refl
  staged_onward n goes (Look p) vars st g = looking_onward n goes p vars st g
  staged_onward n goes (SendText i text more) vars st g =
      let line = (child_of i st.own).line in
      let t : Turn = at i (handing st.own.clock (handed_by line text).actions more) in
      ap (λ (x : Dialogue). run n t vars (owning (with_line i (line_after line text) st.own) x)) (echoed_onward e i (echo_of line text) (idle st) g)
      ∙ goes t vars (typed i text st) (typed_good i text (idle st) g)
  staged_onward n goes (Wait w) vars st g = waited_onward n goes w vars st g

  turned_onward : (n : ℕ) → Goes (run n) → (s : Stage) (r : Performed) (st : Dialogue) → Good (owning r.2 (idle st)) → turned (run n) n s r (offered e (idle st)) ≡ onward e (turned (run n) n s r (idle st))
  turned_onward n goes s (None, vars, o) st g = staged_onward n goes s vars (owning o st) g
  turned_onward n goes s (Some text, vars, o) st g = refl

  run_onward : (n : ℕ) → Goes (run n)
  run_onward zero t vars st g = refl
  run_onward (suc n) t vars st g = turned_onward n (run_onward n) t.stage (performed t.child t.effects vars st.own) st (performed_good t.child t.effects vars (idle st) g)

  resuming_onward : (f : Phase) (vars : Variables) (st : Dialogue) → Good (idle st) → resuming f vars (offered e (idle st)) ≡ onward e (resuming f vars (idle st))
  resuming_onward Idle vars st g = refl
  resuming_onward (At n w) vars st g = waited_onward n (run_onward n) w vars st g

  filled_onward : (text : Option (List ℕ)) (said : Said Deed) (vars : Variables) (st : Dialogue) → Good (idle st) → filled text said vars (offered e (idle st)) ≡ onward e (filled text said vars (idle st))
  filled_onward None said vars st g = run_onward turns (doing said) vars st g
  filled_onward (Some text) said vars st g = refl

  began_onward : (n : Option ExpectCommand) (word : List ℕ) (args : List (List ℕ)) (vars : Variables) (st : Dialogue) → Good (idle st) → began n word args vars (offered e (idle st)) ≡ onward e (began n word args vars (idle st))
  began_onward None word args vars st g = refl
  began_onward (Some n) word args vars st g = filled_onward (filling n args) (named n word args vars st.own) vars st g

  begun_onward : (words : List (List ℕ)) (vars : Variables) (st : Dialogue) → Good (idle st) → begun words vars (offered e (idle st)) ≡ onward e (begun words vars (idle st))
  begun_onward [] vars st g = refl
  begun_onward (word ∷ args) vars st g = began_onward (expect_command word) word args vars st g

  -- the law: a call with an event more
  pub outcome_onward : (call : Call) (st : Dialogue) → Good st → outcome call (offered e st) ≡ onward e (outcome call st)
  outcome_onward (Begin words vars) st g = begun_onward words vars st (record { clock = g.clock; lanes = g.lanes })
  outcome_onward (Resume vars) st g = resuming_onward st.phase vars st (record { clock = g.clock; lanes = g.lanes })
  outcome_onward (AfterWords words vars) st g = run_onward turns (doing (worded words vars st.own)) vars st (record { clock = g.clock; lanes = g.lanes })
  outcome_onward (AfterBody c value vars) st g =
      let o = record st.own { bodies = outer st.own.bodies } in run_onward turns (behind c value st.own.bodies o) vars (owning o st) (record { clock = g.clock; lanes = g.lanes })
  outcome_onward (Knows word) st g = refl
