-- What each step of a call keeps, the call keeps; it is then about the children that its first turn was about; and it comes to a step that it may come to.
use Rattle.std.proofs.Common.{◌≡◌, ℕ, zero, suc, ◌≤◌, List, [], ◌∷◌, Bool, true, false, Option, Some, None, inl, inr, refl, sym, ap, subst}
use Rattle.std.specs.Prelude.{position, if◌then◌else◌}
use Rattle.child_events.specs.declared.event.Answer.{Answer}
use Rattle.child_events.specs.declared.event.Cause.{Cause}
use Rattle.child_events.specs.Queue.{Queued}
use Rattle.exp_match.specs.Choice.{waits_for_end, waits_for_full, waits_for_time, first_in}
use Rattle.tty.specs.Sends.{handed_by}
use Rattle.tcl_subst.specs.Variables.{Variables}
use Rattle.tcl_host.specs.declared.host.HostStep.{HostStep}
use Rattle.tcl_host.specs.declared.host.HostStep.TheVariants as step
use Rattle.tcl_host.specs.declared.ending.Ending.TheVariants.{TimeLimit}
use Rattle.expect_core.specs.declared.lanes.Lane.{Lane}
use Rattle.expect_core.specs.declared.body.Body.TheVariants.{Action, Source}
use Rattle.expect_core.specs.declared.plan.Plan.{Plan}
use Rattle.expect_core.specs.declared.spread.Spread.{Spread}
use Rattle.expect_core.specs.declared.phase.Phase.{Phase}
use Rattle.expect_core.specs.declared.phase.Phase.TheVariants.{Idle, At}
use Rattle.expect_core.specs.declared.phase.Heard.TheVariants.{Match, Full, TimedOut, OverLimit, NotYet, Ended, Failed}
use Rattle.expect_core.specs.declared.effect.Effect.{Effect}
use Rattle.expect_core.specs.declared.turn.Reply.{Reply}
use Rattle.expect_core.specs.declared.turn.Reply.TheVariants.{Done, Fail}
use Rattle.expect_core.specs.declared.turn.Next.{Next}
use Rattle.expect_core.specs.declared.turn.Next.TheVariants as next
use Rattle.expect_core.specs.declared.turn.Reaction.{Reaction}
use Rattle.expect_core.specs.declared.turn.Want.{Want}
use Rattle.expect_core.specs.declared.turn.Want.TheVariants as want
use Rattle.expect_core.specs.declared.turn.Stage.{Stage}
use Rattle.expect_core.specs.declared.turn.Stage.TheVariants.{Over, Act, Look, Read, Send as SendText, Wait}
use Rattle.expect_core.specs.declared.turn.Turn.{Turn}
use Rattle.expect_core.specs.declared.own.Own.{Own}
use Rattle.expect_core.specs.declared.dialogue.Dialogue.{Dialogue}
use Rattle.expect_core.specs.Lanes.{lane_of, Inbox, answer_box, item_box, with_left, with_items, with_answers}
use Rattle.expect_core.specs.Owned.{child_of, received, at_moment, trimmed}
use Rattle.expect_core.specs.Scoped.{Unset}
use Rattle.expect_core.specs.Heard.{at_most, places_of, groups_at, IsWatched, sent_too, about, Listened, listen, look}
use Rattle.expect_core.specs.Answered.{Outcome, idle, owning, failure, first_of}
use Rattle.expect_core.specs.Effects.{Performed, changed, stored, unless, performed}
use Rattle.expect_core.specs.Turns.{react, stage_of, at}
use Rattle.expect_core.specs.Sending.{typed, handing}
use Rattle.expect_core.specs.Spread.{sent_on}
use Rattle.expect_core.specs.Among.{IsAmong}
use Rattle.expect_core.specs.Expecting.{all_met, ended, late_at, late_by}
use Rattle.expect_core.specs.Running.{To, step_of, answered, heard_as, concluded, on_come, awaited, waited_for, staged, turned, run, resuming}
use Rattle.expect_core.specs.Calls.{outer}
use Rattle.expect_core.proofs.Keeping.{Kept as WaitKept, wait_keeps}
use Rattle.expect_core.proofs.LaneFacts.{IsInbox, of_answers, of_items, left_back}
use Rattle.expect_core.proofs.Resting.{NoneCame, RestsAt, WantRests, AsleepIn}

-- A call that came to this step may come to it. One that waits has nothing to take.
abbrev pub MayCome : HostStep → Dialogue → Type 0
MayCome step.Wait st = AsleepIn st.phase st
MayCome (step.Stop ending) st = ending ≡ TimeLimit
MayCome step.Unknown st = ⊥
MayCome (step.Words text) st = ⊥
MayCome step.Memory st = ⊥
MayCome other st = Unit {0}

-- a child that takes part is one that the wait is about
pub among_too : (s : Option (ℕ × Spread)) (is : List ℕ) (i : ℕ) → IsAmong i is → IsAmong i (sent_too s is)
among_too None is i among = among
among_too (Some s) is i among = inr among

-- what is about children of A alone, and, where an expect awaits that one of its children is let go, about such a child
module _ (A : ℕ → Type 0) (B : ℕ → Plan → Type 0) where
  abbrev pub Sees : Plan → Type 0
  Sees p = (i : ℕ) → IsAmong i (about p) → A i

  abbrev pub WantOf : Want → Type 0
  WantOf (want.Answer i why) = A i
  WantOf (want.Item i why) = A i
  WantOf (want.Output p) = Sees p
  WantOf (want.End i p) = A i × Sees p × B i p

  abbrev pub StageOf : Stage → Type 0
  StageOf (Over reply) = Unit {0}
  StageOf (Act p m) = Sees p
  StageOf (Look p) = Sees p
  StageOf (Read script) = Unit {0}
  StageOf (SendText i text more) = A i
  StageOf (Wait w) = WantOf w

  abbrev pub ChildOf : Option ℕ → Type 0
  ChildOf None = Unit {0}
  ChildOf (Some i) = A i

  abbrev pub TurnOf : Turn → Type 0
  TurnOf t = ChildOf t.child × StageOf t.stage

  abbrev pub PhaseOf : Phase → Type 0
  PhaseOf Idle = Unit {0}
  PhaseOf (At n w) = WantOf w

  stage_of_a : (i : ℕ) (n : Next) → A i → StageOf (stage_of i n)
  stage_of_a i (next.Finish reply) a = tt
  stage_of_a i (next.Await why) a = a
  stage_of_a i (next.Hear aim) a = a
  stage_of_a i (next.Evaluate script) a = tt
  stage_of_a i (next.Send text more) a = a
  stage_of_a i (next.Pause last more) a = λ j among. elim among [ inl same ↦ subst A same a | inr none ↦ absurd none ]

  pub at_of : (i : ℕ) (r : Reaction) → A i → TurnOf (at i r)
  at_of i r a = (a, stage_of_a i r.next a)

-- what each step keeps
pub record Kept (A : ℕ → Type 0) (P : Dialogue → Type 0) : Type 0 where
  pub does : (at : Option ℕ) (x : Effect) (st : Dialogue) → ChildOf A (λ i p. Unit {0}) at → P st → P (owning (changed at x st.own) st)
  pub holds : (p : Plan) (st : Dialogue) → Sees A (λ i p. Unit {0}) p → P st → P (owning (record st.own { bodies = Action p ∷ st.own.bodies }) st)
  pub reads : (st : Dialogue) → P st → P (owning (record st.own { bodies = Source ∷ st.own.bodies }) st)
  pub pops : (st : Dialogue) → P st → P (owning (record st.own { bodies = outer st.own.bodies }) st)
  pub types : (i : ℕ) (text : List ℕ) (st : Dialogue) → A i → P st → P (typed i text st)
  pub trims : (i : ℕ) (st : Dialogue) → A i → P st → P (owning (trimmed i st.own) st)
  pub receives : (i : ℕ) (piece : List ℕ) (st : Dialogue) → A i → P st → P (owning (received i piece st.own) st)
  pub takes : (i : ℕ) (q : Queued) (qs : List Queued) (st : Dialogue) → A i → (lane_of i st.lanes).items ≡ q ∷ qs → P st → P (record st { lanes = with_items i qs st.lanes; own = at_moment q.moment st.own })
  pub answers : (i : ℕ) (a : ℕ × Answer) (l : List (ℕ × Answer)) (st : Dialogue) → A i → (lane_of i st.lanes).answers ≡ a ∷ l → P st → P (record st { lanes = with_answers i l st.lanes; own = at_moment a.0 st.own })
  pub times : (d : ℕ) (st : Dialogue) → d ≤ st.horizon → P st → P (owning (record st.own { clock = d }) st)

module _ (A : ℕ → Type 0) (B : ℕ → Plan → Type 0) (mine : (i : ℕ) (p : Plan) → IsWatched i p.sides → B i p) (P : Dialogue → Type 0) (k : Kept A P) where
  abbrev pub After : Outcome → Type 0
  After (s, vars, st) = P (idle st) × PhaseOf A B st.phase × MayCome s st

  abbrev Runs : To → Type 0
  Runs to = (t : Turn) (vars : Variables) (st : Dialogue) → TurnOf A B t → P (idle st) → After (to t vars (idle st))

  child_of_a : (at : Option ℕ) → ChildOf A B at → ChildOf A (λ i p. Unit {0}) at
  child_of_a None a = tt
  child_of_a (Some i) a = a

  -- effects

  unless_keeps : (r : Variables × Unset) (o : Own) (st : Dialogue) (more : Variables → Performed) → P (owning o st) → ((vars : Variables) → P (owning (more vars).2 st)) → P (owning (unless r o more).2 st)
  unless_keeps (vars, None) o st more p kept = kept vars
  unless_keeps (vars, Some text) o st more p kept = p

  pub performs : (at : Option ℕ) (xs : List Effect) (vars : Variables) (st : Dialogue) → ChildOf A B at → P st → P (owning (performed at xs vars st.own).2 st)
  performs at [] vars st a p = p
  performs at (x ∷ xs) vars st a p =
      unless_keeps (stored x vars) st.own st (λ vars. performed at xs vars (changed at x st.own)) p
      (λ vars. performs at xs vars (owning (changed at x st.own) st) a (k.does at x st (child_of_a at a) p))

  -- turns

  late_at_of : (p : Plan) (n : Option ℕ) → Sees A B p → TurnOf A B (late_at p n)
  late_at_of p None sees = (tt, tt)
  late_at_of p (Some n) sees = (tt, sees)

  late_of : (p : Plan) (s : Option (ℕ × Spread)) → p.pending ≡ s → Sees A B p → TurnOf A B (late_by p s)
  late_of p None e sees = late_at_of p (position (λ e. waits_for_time e.want) p.list.entries) sees
  late_of p (Some s) e sees =
      let among : IsAmong s.0 (about p) = subst (λ (x : Option (ℕ × Spread)). IsAmong s.0 (sent_too x (places_of p.sides))) (sym e) (inl refl) in
      at_of A B s.0 (react [] (sent_on s.1)) (sees s.0 among)

  all_met_of : (p : Plan) (i : ℕ) (n : Option ℕ) (o : Own) → A i → Sees A B p → TurnOf A B (all_met p i n o)
  all_met_of p i None o a sees = (tt, tt)
  all_met_of p i (Some n) o a sees = (a, sees)

  ended_of : (p : Plan) (i : ℕ) (c : Option Cause) (o : Own) → A i → Sees A B p → TurnOf A B (ended p i c o)
  ended_of p i None o a sees = (a, (all_met_of p i (first_in waits_for_end (groups_at i p.sides) p.list.entries) o a sees).1)
  ended_of p i (Some c) o a sees = (a, tt)

  -- waits for a pattern

  module _ (to : To) (runs : Runs to) (n : ℕ) (p : Plan) (sees : Sees A B p) (vars : Variables) (st : Dialogue) where
    part : (i : ℕ) → IsWatched i p.sides → A i
    part i w = sees i (among_too p.pending (places_of p.sides) i w)

    -- what a wait for a pattern leaves
    abbrev Held : List Lane → Own → Type 0
    Held lanes o = P (record (idle st) { lanes = lanes; own = o })

    concluded_keeps : (r : Listened) → WaitKept st.limit st.horizon p Held r → After (concluded to n p r vars (idle st))
    concluded_keeps (NotYet, lanes, o) w = (w.0, sees, w.3)
    concluded_keeps (OverLimit, lanes, o) w = (w.0, tt, refl)
    concluded_keeps (TimedOut d, lanes, o) w =
        runs _ vars (record st { lanes = lanes; own = record o { clock = d } }) (late_of p p.pending refl sees)
        (k.times d (record (idle st) { lanes = lanes; own = o }) w.2 w.0)
    concluded_keeps (Match i m spans, lanes, o) w = runs _ vars (record st { lanes = lanes; own = o }) (part i w.1, sees) w.0
    concluded_keeps (Full i, lanes, o) w =
        runs _ vars (record st { lanes = lanes; own = o }) (all_met_of p i (first_in waits_for_full (groups_at i p.sides) p.list.entries) o (part i w.1) sees) w.0
    concluded_keeps (Ended i, lanes, o) w = runs _ vars (record st { lanes = lanes; own = o }) (part i w.1, (part i w.1, sees, mine i p w.1)) w.0
    concluded_keeps (Failed i c, lanes, o) w = runs _ vars (record st { lanes = lanes; own = o }) (part i w.1, part i w.1) w.0

    waits_keep : P (idle st) → WaitKept st.limit st.horizon p Held (look st.limit st.horizon p st.lanes st.own) × WaitKept st.limit st.horizon p Held (listen st.limit st.horizon p st.lanes st.own)
    waits_keep held =
        wait_keeps st.limit st.horizon p Held (λ i w lanes o h. k.trims i (record (idle st) { lanes = lanes; own = o }) (part i w) h)
        (λ i w piece lanes o h. k.receives i piece (record (idle st) { lanes = lanes; own = o }) (part i w) h)
        (λ i w q qs lanes o is h. k.takes i q qs (record (idle st) { lanes = lanes; own = o }) (part i w) is h) st.lanes st.own held

  -- waits for what comes next from a child

  module _ {X Y : Type 0} (b : Inbox X Y) (is_box : IsInbox b)
      (taken : (i : ℕ) (x : X) (l : List X) (st : Dialogue) → A i → b.read (lane_of i st.lanes) ≡ x ∷ l → P st → P (record st { lanes = with_left b i l st.lanes; own = at_moment (b.stamp x).0 st.own }))
      (to : To) (runs : Runs to) (n : ℕ) (w : Want) (i : ℕ) (made : Y → Own → Turn) (vars : Variables) (a : A i) (of : WantOf A B w) (made_of : (y : Y) (o : Own) → TurnOf A B (made y o))
      (rests : (st : Dialogue) → RestsAt b i st → WantRests w st) where
    abbrev pub First : Type 0
    First = Option (ℕ × Y) × List X

    -- what comes first comes to this
    abbrev come : First → Dialogue → Outcome
    come x st = on_come to n w made x.0 vars (record st { lanes = with_left b i x.1 st.lanes })

    waits_keeps : (st : Dialogue) → NoneCame b st.limit (b.read (lane_of i st.lanes)) → P (idle st) → (yet : Bool) → at_most st.horizon st.limit ≡ yet → After (if yet then (let r : Outcome = (step.Wait, vars, record (idle st) { phase = At n w }) in r) else (step.Stop TimeLimit, vars, idle st))
    waits_keeps st none held true e = (held, of, rests (record st { phase = At n w }) (none, e))
    waits_keeps st none held false e = (held, tt, refl)

    none_keeps : (l : List X) (st : Dialogue) → b.read (lane_of i st.lanes) ≡ l → first_of b st.limit l ≡ (None, l) → P (idle st) → After (come (None, l) (idle st))
    none_keeps l st is none held =
        let back : with_left b i l st.lanes ≡ st.lanes = subst (λ (x : List X). with_left b i x st.lanes ≡ st.lanes) is (left_back b is_box i st.lanes) in
        subst (λ (ls : List Lane). After (on_come to n w made None vars (record (idle st) { lanes = ls }))) (sym back)
        (waits_keeps st (subst (NoneCame b st.limit) (sym is) none) held (at_most st.horizon st.limit) refl)

    first_keeps : (x : X) (l : List X) (st : Dialogue) → b.read (lane_of i st.lanes) ≡ x ∷ l → P (idle st) → (yet : Bool) → at_most (b.stamp x).0 st.limit ≡ yet → After (come (let r : First = (if yet then (Some (b.stamp x), l) else (None, x ∷ l)) in r) (idle st))
    first_keeps x l st is held true e =
        runs _ vars (record st { lanes = with_left b i l st.lanes; own = at_moment (b.stamp x).0 st.own }) (made_of (b.stamp x).1 (at_moment (b.stamp x).0 st.own)) (taken i x l (idle st) a is held)
    first_keeps x l st is held false e = none_keeps (x ∷ l) st is (ap (λ (yet : Bool). let r : First = (if yet then (Some (b.stamp x), l) else (None, x ∷ l)) in r) e) held

    each_keeps : (l : List X) (st : Dialogue) → b.read (lane_of i st.lanes) ≡ l → P (idle st) → After (come (first_of b st.limit l) (idle st))
    each_keeps [] st is held = none_keeps [] st is refl held
    each_keeps (x ∷ l) st is held = first_keeps x l st is held (at_most (b.stamp x).0 st.limit) refl

    pub awaited_keeps : (st : Dialogue) → P (idle st) → After (awaited b to n w i made vars (idle st))
    awaited_keeps st held = each_keeps (b.read (lane_of i st.lanes)) st refl held

  waited_keeps : (to : To) → Runs to → (n : ℕ) (w : Want) (vars : Variables) (st : Dialogue) → WantOf A B w → P (idle st) → After (waited_for to n w vars (idle st))
  waited_keeps to runs n (want.Answer i why) vars st of held =
      awaited_keeps answer_box of_answers k.answers to runs n (want.Answer i why) i (λ x o. at i (answered why i x o)) vars of of (λ x o. at_of A B i (answered why i x o) of) (λ st rests. rests) st held
  waited_keeps to runs n (want.Item i why) vars st of held =
      awaited_keeps item_box of_items k.takes to runs n (want.Item i why) i (λ x o. at i (heard_as why i x)) vars of of (λ x o. at_of A B i (heard_as why i x) of) (λ st rests. rests) st held
  waited_keeps to runs n (want.End i p) vars st of held =
      awaited_keeps answer_box of_answers k.answers to runs n (want.End i p) i (λ x o. ended p i (failure x) o) vars of.0 of (λ x o. ended_of p i (failure x) o of.0 of.1) (λ st rests. rests) st held
  waited_keeps to runs n (want.Output p) vars st of held = concluded_keeps to runs n p of vars st (listen st.limit st.horizon p st.lanes st.own) (waits_keep to runs n p of vars st held).1

  over_may : (reply : Reply) (st : Dialogue) → MayCome (step_of reply) st
  over_may (Done c value) st = tt
  over_may (Fail text) st = tt

  staged_keeps : (to : To) → Runs to → (n : ℕ) (s : Stage) (vars : Variables) (st : Dialogue) → StageOf A B s → P (idle st) → After (staged to n s vars (idle st))
  staged_keeps to runs n (Over reply) vars st of held = (held, tt, over_may reply (idle st))
  staged_keeps to runs n (Act p m) vars st of held = (k.holds (record p { met = Some m }) (idle st) of held, tt, tt)
  staged_keeps to runs n (Read script) vars st of held = (k.reads (idle st) held, tt, tt)
  staged_keeps to runs n (Look p) vars st of held = concluded_keeps to runs n p of vars st (look st.limit st.horizon p st.lanes st.own) (waits_keep to runs n p of vars st held).0
  staged_keeps to runs n (SendText i text more) vars st of held =
      runs _ vars (typed i text st) (at_of A B i (handing st.own.clock (handed_by (child_of i st.own).line text).actions more) of) (k.types i text (idle st) of held)
  staged_keeps to runs n (Wait w) vars st of held = waited_keeps to runs n w vars st of held

  turned_keeps : (to : To) → Runs to → (n : ℕ) (s : Stage) (r : Performed) (st : Dialogue) → StageOf A B s → P (owning r.2 (idle st)) → After (turned to n s r (idle st))
  turned_keeps to runs n s (None, vars, o) st of held = staged_keeps to runs n s vars (owning o st) of held
  turned_keeps to runs n s (Some text, vars, o) st of held = (held, tt, tt)

  pub run_keeps : (n : ℕ) → Runs (run n)
  run_keeps zero t vars st of held = (held, tt, refl)
  run_keeps (suc n) t vars st of held = turned_keeps (run n) (run_keeps n) n t.stage (performed t.child t.effects vars st.own) st of.1 (performs t.child t.effects vars (idle st) of.0 held)

  pub resuming_keeps : (f : Phase) (vars : Variables) (st : Dialogue) → PhaseOf A B f → P (idle st) → After (resuming f vars (idle st))
  resuming_keeps Idle vars st of held = (held, tt, tt)
  resuming_keeps (At n w) vars st of held = waited_keeps (run n) (run_keeps n) n w vars st of held
