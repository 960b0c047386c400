-- A script alone in its hall, step by step.
use Rattle.std.proofs.Common.{◌≡◌, ◌≢◌, ℕ, ◌+◌, ◌≤◌, List, [], ◌∷◌, ◌++◌, length, Bool, true, false, Option, Some, None, refl, sym, ap, subst, ◌∙◌, append_assoc, append-nil, arith}
use Rattle.std.specs.Prelude.{nat_lt, nat_le, IsTrue, max, slice_get, option_map}
use Rattle.std.proofs.lemmas.Bool.Decides.{nat_tests}
use Rattle.child_events.specs.declared.child_numbers.ChildNumbers.TheVariants.{To999}
use Rattle.child_events.specs.declared.event.Event.{Event}
use Rattle.child_events.specs.declared.event.HallEvent.{HallEvent}
use Rattle.child_events.specs.World.{own, horizon_of}
use Rattle.child_events.specs.Log.{AllFit}
use Rattle.child_events.proofs.Worlds.{own-append}
use Rattle.expect_core.specs.declared.request.Request.{Request}
use Rattle.expect_core.specs.Numbered.{NamesAChild}
use Rattle.session.specs.declared.report.Report.{Report}
use Rattle.session.specs.Meaning.{meaning}
use Rattle.session.specs.Left.{Kept, HandsOut, HasStarted}
use Rattle.session.specs.Requests.{AsksChildren}
use Rattle.session.proofs.Numbering.{begins_asking, fed_asking, handed_asking}
use Rattle.dialogue_sched.specs.declared.script.Script.{Script}
use Rattle.dialogue_sched.specs.Refusal.{refusal_of}
use Rattle.dialogue_sched.specs.Took.{Took, AllTook}
use Rattle.dialogue_sched.specs.Hall.{Begins, AllBegin, Requested, StartsAt}
use Rattle.dialogue_sched.proofs.Running.{Took_lives, Took_says}
use Rattle.child_timeline.specs.declared.exits.Exit.{Exit}
use Rattle.log_plan.specs.declared.planner.Planner.{Planner}
use Rattle.child_timeline.specs.Told.{is_answer}
use Rattle.log_plan.specs.Plan.{answers, open_request, awaited_start, answered, started, first_due, due_after, GoesOn}
use Rattle.log_plan.specs.Standing.{moment_in, answer_at, start_at, Follows, Stands, IsAnswered, IsAsked}
use Rattle.log_plan.proofs.Placing.{one_more_answer, no_more_answers, goes_due, goes_told, taken_fits, fit_more, later, early_in}

-- one session

took_handed : (es : List Event) (k k' : Kept) → Took k es k' → k'.handed ≡ k.handed
took_handed [] k k' t = ap (λ (x : Kept). x.handed) t
took_handed (e ∷ es) k k' t = t.handed

took_asks : (es : List Event) (k k' : Kept) → Took k es k' → AsksChildren k → AsksChildren k'
took_asks [] k k' t asks = subst AsksChildren (sym t) asks
took_asks (e ∷ es) k k' t asks = fed_asking k k' (e ∷ es) t asks

follow_took : (s : Script) (es : List HallEvent) (e : HallEvent) (n : ℕ) (k k' : Kept) → Follows s es n k → Took k (own 1 (e ∷ [])) k' → Follows s (es ++ e ∷ []) n k'
follow_took s es e n k k' f t =
    let came = own 1 (e ∷ []) in
    record {
      handed = took_handed came k k' t ∙ f.handed;
      asks = took_asks came k k' t f.asks;
      says = λ lives more.
          Took_says came k k' t lives more
          ∙ f.says (Took_lives came k k' t lives) (came ++ more)
          ∙ ap (meaning s.source s.settings) (sym (append_assoc (own 1 es) came more))
          ∙ ap (λ (xs : List Event). meaning s.source s.settings (xs ++ more)) (sym (own-append 1 es (e ∷ [])));
    }

follow_handed : (s : Script) (es : List HallEvent) (n : ℕ) (r : Request) (k k' : Kept) → Follows s es n k → HandsOut k (Some r) k' → Follows s es (n + 1) k'
follow_handed s es n r k k' f out = record {
  handed = out.counted ∙ ap (λ (m : ℕ). m + 1) f.handed;
  asks = (handed_asking k k' (Some r) out f.asks).0;
  says = λ lives more. out.says more ∙ f.says (subst (λ (b : Bool). IsTrue b) out.lives lives) more;
}

follow_none : (s : Script) (es : List HallEvent) (n : ℕ) (k k' : Kept) → Follows s es n k → HandsOut k None k' → Follows s es n k'
follow_none s es n k k' f out = record {
  handed = out.counted ∙ f.handed;
  asks = (handed_asking k k' None out f.asks).0;
  says = λ lives more. out.says more ∙ f.says (subst (λ (b : Bool). IsTrue b) out.lives lives) more;
}

-- what is handed out is the open request
asked_open : (s : Script) (es : List HallEvent) (o : Option Request) (k k' : Kept) → Follows s es (length (answers es)) k → HandsOut k o k' → IsTrue k.lives → o ≡ open_request s es
asked_open s es o k k' f out lives =
    out.next lives
    ∙ ap (λ (r : Report). slice_get r.requests k.handed) (f.says lives [] ∙ ap (meaning s.source s.settings) (append-nil (own 1 es)))
    ∙ ap (λ (n : ℕ). slice_get (meaning s.source s.settings (own 1 es)).requests n) f.handed

asked_lives : (r : Request) (k k' : Kept) → HandsOut k (Some r) k' → (b : Bool) → k.lives ≡ b → IsTrue k.lives
asked_lives r k k' out true e = e
asked_lives r k k' out false e = let none : Some r ≡ None = out.spent e in absurd (cc)

-- a hall of one

pub handed_alone : (k : Kept) (o : Option Request) (ks news : List Kept) → ks ≡ k ∷ [] → Requested 1 ks o news → (k' : Kept) × HandsOut k o k' × (news ≡ k' ∷ [])
handed_alone k o ks news alone h =
    let r : Requested 1 (k ∷ []) o news = subst (λ (xs : List Kept). Requested 1 xs o news) alone h in
    (r.0, r.1, r.2)

took_there : (e : HallEvent) (k : Kept) (news : List Kept) → AllTook 1 (e ∷ []) (k ∷ []) news → (k' : Kept) × (news ≡ k' ∷ []) × Took k (own 1 (e ∷ [])) k'
took_there e k [] t = absurd t
took_there e k (k' ∷ []) t = (k', refl, t.0)
took_there e k (k' ∷ x ∷ news) t = absurd t.1

took_alone : (e : HallEvent) (k : Kept) (ks news : List Kept) → ks ≡ k ∷ [] → AllTook 1 (e ∷ []) ks news → (k' : Kept) × (news ≡ k' ∷ []) × Took k (own 1 (e ∷ [])) k'
took_alone e k ks news alone t = took_there e k news (subst (λ (xs : List Kept). AllTook 1 (e ∷ []) xs news) alone t)

pub refused_alone : (e : HallEvent) (k : Kept) (ks : List Kept) → ks ≡ k ∷ [] → refusal_of 1 e ≡ None → refusal_of (length ks) e ≡ None
refused_alone e k ks alone h = ap (λ (xs : List Kept). refusal_of (length xs) e) alone ∙ h

lt_true : (a b : ℕ) → a + 1 ≤ b → nat_lt a b ≡ true
lt_true a b h = grind (arith, nat_tests)

le_true : (a b : ℕ) → a ≤ b → nat_le a b ≡ true
le_true a b h = grind (arith, nat_tests)

answer_taken : (exits : List Exit) (m : ℕ) (r : Request) → NamesAChild r → m ≤ 9000000000000000 → refusal_of 1 (answer_at exits m r) ≡ None
answer_taken exits m r named early =
    rw (lt_true 0 r.child named.0, le_true r.child 16 named.1, le_true m 9000000000000000 early)

-- the first output of a child is taken
start_taken : (m c : ℕ) → (1 ≤ c) × (c ≤ 16) → m ≤ 9000000000000000 → refusal_of 1 (start_at m c) ≡ None
start_taken m c few early =
    rw (lt_true 0 c few.0, le_true c 16 few.1, le_true m 9000000000000000 early)

module _ (s : Script) (exits : List Exit) (told : List HallEvent) (p : Planner) (st : Stands s exits told p) where
  -- the answer to what was handed out is taken
  pub answer_is_taken : (r : Request) (ks : List Kept) → Requested 1 p.hall (Some r) ks → refusal_of 1 (answer_at exits p.moment r) ≡ None
  answer_is_taken r ks h =
      let out = handed_alone st.kept (Some r) p.hall ks st.alone h in
      answer_taken exits p.moment r ((handed_asking st.kept out.0 (Some r) out.1 st.follows.asks).1) st.early

  pub start_is_taken : (c : ℕ) → (1 ≤ c) × (c ≤ 16) → refusal_of 1 (start_at p.moment c) ≡ None
  start_is_taken c few = start_taken p.moment c few st.early

  pub only_one : (o : Option Request) (ks : List Kept) → Requested 1 p.hall o ks → (k : Kept) × (ks ≡ k ∷ [])
  only_one o ks h = let out = handed_alone st.kept o p.hall ks st.alone h in (out.0, out.2)

begun_one : (s : Script) (ks : List Kept) → AllBegin (s ∷ []) ks → (k : Kept) × (ks ≡ k ∷ []) × Begins s k
begun_one s [] b = absurd b
begun_one s (k ∷ []) b = (k, refl, b.0)
begun_one s (k ∷ x ∷ ks) b = absurd b.1

-- nothing has happened
pub stands_first : (s : Script) (exits : List Exit) (p : Planner) → AllBegin (s ∷ []) p.hall → p.events ≡ [] → p.moment ≡ 0 → Stands s exits [] p
stands_first s exits p b none zeroth =
    let k = begun_one s p.hall b in
    record {
      kept = k.0;
      alone = k.1;
      follows = subst (λ (es : List HallEvent). Follows s es (length (answers es)) k.0) (sym none) (record {
        handed = k.2.handed;
        asks = begins_asking s.source s.settings k.0 k.2.says;
        says = k.2.says;
      });
      goes = λ lives. subst (λ (es : List HallEvent). GoesOn s exits [] es []) (sym none) (record { due = tt; others = refl });
      fit = subst (AllFit To999) (sym none) tt;
      moment = zeroth ∙ sym (ap (λ (es : List HallEvent). horizon_of (own 1 es)) none);
      early = subst (λ (n : ℕ). n ≤ 9000000000000000) (sym zeroth) (omega arith);
    }

max_early : (a b : ℕ) → a ≤ 9000000000000000 → b ≤ 9000000000000000 → max a b ≤ 9000000000000000
max_early a b h g = omega arith

-- an open request is due
due_asked : (s : Script) (exits : List Exit) (es : List HallEvent) (m : ℕ) (r : Request) → m ≡ horizon_of (own 1 es) → Some r ≡ open_request s es → due_after s exits es ≡ Some (answer_at exits m r)
due_asked s exits es m r now asked =
    ap (λ (o : Option Request). first_due (option_map (answered exits es) o) (option_map (started es) (awaited_start s es))) (sym asked)
    ∙ ap (λ (n : ℕ). Some (answer_at exits n r)) (sym now)

-- without a request, a start is due, or nothing
due_start : (s : Script) (exits : List Exit) (es : List HallEvent) (m : ℕ) (c : Option ℕ) → m ≡ horizon_of (own 1 es) → open_request s es ≡ None → c ≡ awaited_start s es → due_after s exits es ≡ option_map (start_at m) c
due_start s exits es m c now none starts =
    ap (λ (o : Option Request). first_due (option_map (answered exits es) o) (option_map (started es) (awaited_start s es))) none
    ∙ ap (option_map (started es)) (sym starts)
    ∙ ap (λ (n : ℕ). option_map (start_at n) c) (sym now)

-- the start that a session awaits
started_is : (s : Script) (es : List HallEvent) (n : ℕ) (c : Option ℕ) (k : Kept) → Follows s es n k → HasStarted k c → IsTrue k.lives → c ≡ awaited_start s es
started_is s es n c k f h lives =
    h.lives lives
    ∙ ap (λ (r : Report). r.starting) (f.says lives [] ∙ ap (meaning s.source s.settings) (append-nil (own 1 es)))

started_lives : (c : ℕ) (k : Kept) → HasStarted k (Some c) → (b : Bool) → k.lives ≡ b → IsTrue k.lives
started_lives c k h true e = e
started_lives c k h false e = let none : Some c ≡ None = h.spent e in absurd (cc)

started_alone : (k : Kept) (c : Option ℕ) (ks : List Kept) → ks ≡ k ∷ [] → StartsAt 1 ks c → HasStarted k c
started_alone k c ks alone h = subst (λ (xs : List Kept). StartsAt 1 xs c) alone h

-- a planner to which an event came
module _ (s : Script) (exits : List Exit) (told : List HallEvent) (p q : Planner) (e : HallEvent) (grown : q.events ≡ p.events ++ e ∷ []) (moved : q.moment ≡ max p.moment (moment_in e)) (st : Stands s exits told p) (taken : refusal_of 1 e ≡ None) where
  same_moment : q.moment ≡ horizon_of (own 1 q.events)
  same_moment =
      moved
      ∙ ap (λ (n : ℕ). max n (moment_in e)) st.moment
      ∙ sym (later p.events e taken)
      ∙ sym (ap (λ (es : List HallEvent). horizon_of (own 1 es)) grown)

  still_early : q.moment ≤ 9000000000000000
  still_early = subst (λ (n : ℕ). n ≤ 9000000000000000) (sym moved) (max_early p.moment (moment_in e) st.early (early_in e taken))

  still_fit : AllFit To999 q.events
  still_fit = subst (AllFit To999) (sym grown) (fit_more p.events e st.fit (taken_fits e taken))

  -- a session took it, and the plan goes on
  stands_more : (n : ℕ) (k : Kept) (ks : List Kept) (told' : List HallEvent) → Follows s p.events n k → ks ≡ k ∷ [] → AllTook 1 (e ∷ []) ks q.hall → n ≡ length (answers (p.events ++ e ∷ []))
      → (IsTrue k.lives → GoesOn s exits [] (p.events ++ e ∷ []) told') → Stands s exits told' q
  stands_more n k ks told' f alone t count goes =
      let took = took_alone e k ks q.hall alone t in
      record {
        kept = took.0;
        alone = took.1;
        follows = subst (λ (es : List HallEvent). Follows s es (length (answers es)) took.0) (sym grown)
            (subst (λ (m : ℕ). Follows s (p.events ++ e ∷ []) m took.0) count (follow_took s p.events e n k took.0 f took.2));
        goes = λ lives. subst (λ (es : List HallEvent). GoesOn s exits [] es told') (sym grown) (goes (Took_lives (own 1 (e ∷ [])) k took.0 took.2 lives));
        fit = still_fit;
        moment = same_moment;
        early = still_early;
      }

  -- the answer that was due
  pub stands_answered : (r : Request) (ks : List Kept) → e ≡ answer_at exits p.moment r → Requested 1 p.hall (Some r) ks → AllTook 1 (e ∷ []) ks q.hall → Stands s exits told q × (due_after s exits p.events ≡ Some e)
  stands_answered r ks is h t =
      let out = handed_alone st.kept (Some r) p.hall ks st.alone h in
      let lives : IsTrue st.kept.lives = asked_lives r st.kept out.0 out.1 st.kept.lives refl in
      let due : due_after s exits p.events ≡ Some e =
      due_asked s exits p.events p.moment r st.moment (asked_open s p.events (Some r) st.kept out.0 st.follows out.1 lives) ∙ ap (λ (x : HallEvent). Some x) (sym is) in (
        stands_more (length (answers p.events) + 1) out.0 ks told (follow_handed s p.events (length (answers p.events)) r st.kept out.0 st.follows out.1) out.2 t
            (sym (one_more_answer p.events e (ap is_answer is))) (λ alive. goes_due s exits p.events told e (st.goes lives) due),
        due,
      )

  -- the start that was due
  pub stands_started : (c : ℕ) (ks : List Kept) → e ≡ start_at p.moment c → Requested 1 p.hall None ks → StartsAt 1 ks (Some c) → AllTook 1 (e ∷ []) ks q.hall → Stands s exits told q × (due_after s exits p.events ≡ Some e)
  stands_started c ks is h starts t =
      let n : ℕ = length (answers p.events) in
      let out = handed_alone st.kept None p.hall ks st.alone h in
      let here = started_alone out.0 (Some c) ks out.2 starts in
      let f = follow_none s p.events n st.kept out.0 st.follows out.1 in
      let alive : IsTrue out.0.lives = started_lives c out.0 here out.0.lives refl in
      let lives : IsTrue st.kept.lives = subst (λ (b : Bool). IsTrue b) out.1.lives alive in
      let due : due_after s exits p.events ≡ Some e =
      due_start s exits p.events p.moment (Some c) st.moment (sym (asked_open s p.events None st.kept out.0 st.follows out.1 lives)) (started_is s p.events n (Some c) out.0 f here alive) ∙ ap (λ (x : HallEvent). Some x) (sym is) in (
        stands_more n out.0 ks told f out.2 t (sym (no_more_answers p.events e (ap is_answer is))) (λ alive. goes_due s exits p.events told e (st.goes lives) due),
        due,
      )

  -- an event of the timeline, where nothing was due
  pub stands_told : is_answer e ≡ false → IsAnswered s exits p → AllTook 1 (e ∷ []) p.hall q.hall → Stands s exits (told ++ e ∷ []) q
  stands_told other quiet t =
      let same : quiet.kept ≡ st.kept = cc (sym quiet.alone ∙ st.alone) in
      stands_more (length (answers p.events)) st.kept p.hall (told ++ e ∷ []) st.follows st.alone t (sym (no_more_answers p.events e other))
      (λ lives. goes_told s exits p.events told e (st.goes lives) (quiet.done (subst (λ (k : Kept). IsTrue k.lives) (sym same) lives)))

-- nothing is asked, and no start awaited
module _ (s : Script) (exits : List Exit) (told : List HallEvent) (p q : Planner) (same : q.events ≡ p.events) (stays : q.moment ≡ p.moment) (st : Stands s exits told p) (h : Requested 1 p.hall None q.hall) where
  pub stands_still : Stands s exits told q
  stands_still =
      let out = handed_alone st.kept None p.hall q.hall st.alone h in
      record {
        kept = out.0;
        alone = out.2;
        follows = subst (λ (es : List HallEvent). Follows s es (length (answers es)) out.0) (sym same) (follow_none s p.events (length (answers p.events)) st.kept out.0 st.follows out.1);
        goes = λ lives. subst (λ (es : List HallEvent). GoesOn s exits [] es told) (sym same) (st.goes (subst (λ (b : Bool). IsTrue b) out.1.lives lives));
        fit = subst (AllFit To999) (sym same) st.fit;
        moment = stays ∙ st.moment ∙ sym (ap (λ (es : List HallEvent). horizon_of (own 1 es)) same);
        early = subst (λ (n : ℕ). n ≤ 9000000000000000) (sym stays) st.early;
      }

  pub answered_still : StartsAt 1 q.hall None → IsAnswered s exits q
  answered_still starts =
      let n : ℕ = length (answers p.events) in
      let out = handed_alone st.kept None p.hall q.hall st.alone h in
      let here = started_alone out.0 None q.hall out.2 starts in
      let f = follow_none s p.events n st.kept out.0 st.follows out.1 in
      record {
        kept = out.0;
        alone = out.2;
        done = λ lives.
            let lived : IsTrue st.kept.lives = subst (λ (b : Bool). IsTrue b) out.1.lives lives in
            ap (due_after s exits) same
            ∙ due_start s exits p.events p.moment None st.moment (sym (asked_open s p.events None st.kept out.0 st.follows out.1 lived)) (started_is s p.events n None out.0 f here lives);
      }

-- what is handed out or awaited is due, and so was what came before
module _ (s : Script) (exits : List Exit) (told : List HallEvent) (p : Planner) (st : Stands s exits told p) where
  some_due : (e : HallEvent) → due_after s exits p.events ≡ Some e → due_after s exits p.events ≢ None
  some_due e due none = let clash : Some e ≡ None = sym due ∙ none in absurd (cc)

  pub more_open : (r : Request) (ks : List Kept) → Requested 1 p.hall (Some r) ks → IsAsked s exits told p
  more_open r ks h =
      let out = handed_alone st.kept (Some r) p.hall ks st.alone h in
      let lives : IsTrue st.kept.lives = asked_lives r st.kept out.0 out.1 st.kept.lives refl in
      record {
        goes = st.goes lives;
        more = some_due _ (due_asked s exits p.events p.moment r st.moment (asked_open s p.events (Some r) st.kept out.0 st.follows out.1 lives));
      }

  pub more_awaited : (c : ℕ) (ks : List Kept) → Requested 1 p.hall None ks → StartsAt 1 ks (Some c) → IsAsked s exits told p
  more_awaited c ks h starts =
      let n : ℕ = length (answers p.events) in
      let out = handed_alone st.kept None p.hall ks st.alone h in
      let here = started_alone out.0 (Some c) ks out.2 starts in
      let f = follow_none s p.events n st.kept out.0 st.follows out.1 in
      let alive : IsTrue out.0.lives = started_lives c out.0 here out.0.lives refl in
      let lives : IsTrue st.kept.lives = subst (λ (b : Bool). IsTrue b) out.1.lives alive in
      record {
        goes = st.goes lives;
        more = some_due _ (due_start s exits p.events p.moment (Some c) st.moment (sym (asked_open s p.events None st.kept out.0 st.follows out.1 lives)) (started_is s p.events n (Some c) out.0 f here alive));
      }
