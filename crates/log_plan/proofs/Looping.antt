-- Answers one after another, and the events of a timeline.
use Rattle.std.proofs.Common.{◌≡◌, ℕ, ◌+◌, ◌≤◌, List, [], ◌∷◌, ◌++◌, length, Bool, true, false, Some, None, refl, sym, ap, subst, ◌∙◌, append_assoc, append-nil, arith}
use Rattle.std.specs.Prelude.{nat_lt, Result, Ok, Err, IfOk, IfErr, OnOk}
use Rattle.std.proofs.lemmas.Bool.Decides.{nat_tests}
use Rattle.child_events.specs.declared.child_numbers.ChildNumbers.TheVariants.{To999}
use Rattle.child_events.specs.declared.event.HallEvent.{HallEvent}
use Rattle.child_events.specs.World.{own, horizon_of}
use Rattle.child_events.specs.Log.{AllFit}
use Rattle.session.specs.Left.{Kept}
use Rattle.dialogue_sched.specs.declared.script.Script.{Script}
use Rattle.child_timeline.specs.declared.exits.Exit.{Exit}
use Rattle.log_plan.specs.declared.planner.Planner.{Planner}
use Rattle.log_plan.specs.declared.fault.PlanFault.{PlanFault}
use Rattle.log_plan.specs.declared.fault.PlanFault.TheVariants.{SourceTooLong, Unending, Memory}
use Rattle.child_timeline.specs.declared.timeline.Timeline.{Timeline}
use Rattle.child_timeline.specs.Told.{IsTold, AreTold}
use Rattle.log_plan.specs.Plan.{due_after, undue, GoesOn, AsksMore, Planned, Plans, is_too_long}
use Rattle.log_plan.specs.Standing.{Stands, IsAnswered, IsAsked, IsWhole, Begins, AnswersNext, SeesNext, SoManyDue, AnswersFrom, TellsAll}
use Rattle.log_plan.proofs.Placing.{undue_append, undue_due, goes_parts, length_more}

pub is_short : (s : Script) (n : ℕ) → n ≡ length s.source → n ≤ 1048576 → is_too_long s ≡ false
is_short s n same few = ap (λ (m : ℕ). nat_lt 1048576 m) (sym same) ∙ not_less n few
  where
    not_less : (n : ℕ) → n ≤ 1048576 → nat_lt 1048576 n ≡ false
    not_less n few = grind (arith, nat_tests)

module _ (s : Script) (exits : List Exit) (told : List HallEvent) where
  -- one more of them
  one_more : (n : ℕ) (before es fs : List HallEvent) (e : HallEvent) → SoManyDue s exits n before es → fs ≡ es ++ e ∷ [] → due_after s exits es ≡ Some e → SoManyDue s exits (n + 1) before fs
  one_more n before es fs e m grown due = record {
    put = m.put ++ e ∷ [];
    grown = grown ∙ ap (λ (xs : List HallEvent). xs ++ e ∷ []) m.grown ∙ append_assoc before m.put (e ∷ []);
    all = undue_append s exits before m.put (e ∷ [])
        ∙ ap (λ (xs : List HallEvent). xs ++ undue s exits (before ++ m.put) (e ∷ [])) m.all
        ∙ undue_due s exits (before ++ m.put) e (ap (due_after s exits) (sym m.grown) ∙ due);
    many = length_more m.put e ∙ ap (λ (k : ℕ). k + 1) m.many;
  }

  pub next_answered : (n : ℕ) (before : List HallEvent) (p q : Planner) (more : Bool) → more ≡ true → SoManyDue s exits n before p.events → AnswersNext s exits told more p q → Stands s exits told q × SoManyDue s exits (n + 1) before q.events
  next_answered n before p q true is m h = (h.0, one_more n before p.events q.events h.1.0 m h.1.1 h.1.2)
  next_answered n before p q false is m h = absurd (cc)

  pub none_left : (p q : Planner) (more : Bool) → more ≡ false → AnswersNext s exits told more p q → Stands s exits told q × IsAnswered s exits q
  none_left p q true is h = absurd (cc)
  none_left p q false is h = (h.0, h.2)

  pub nothing_seen : (p q : Planner) (more : Bool) → more ≡ false → SeesNext s exits told more p q → Stands s exits told q × IsAnswered s exits q
  nothing_seen p q true is h = absurd (cc)
  nothing_seen p q false is h = (h.0, h.2)

  -- as many as may be
  asks_more : (n : ℕ) (before : List HallEvent) (p : Planner) (m : ℕ) → Stands s exits told p → SoManyDue s exits n before p.events → n ≡ 100000 → IsAsked s exits told p → m ≡ p.moment → GoesOn s exits [] before told × AsksMore s exits before m
  asks_more n before p m st so_many count asked stays =
      let parts = goes_parts s exits before so_many.put told (subst (λ (es : List HallEvent). GoesOn s exits [] es told) so_many.grown asked.goes) so_many.all in (
        parts.0,
        record {
          put = so_many.put;
          goes = parts.1;
          many = so_many.many ∙ count;
          more = λ none. asked.more (ap (due_after s exits) so_many.grown ∙ none);
          moment = stays ∙ st.moment ∙ ap (λ (es : List HallEvent). horizon_of (own 1 es)) so_many.grown;
        },
      )

  pub more_seen : (n : ℕ) (before : List HallEvent) (p q : Planner) (more : Bool) → more ≡ true → Stands s exits told p → SoManyDue s exits n before p.events → n ≡ 100000 → SeesNext s exits told more p q → q.moment ≡ p.moment
      → GoesOn s exits [] before told × AsksMore s exits before q.moment
  more_seen n before p q true is st m count h stays = asks_more n before p q.moment st m count h stays
  more_seen n before p q false is st m count h stays = absurd (cc)

-- a timeline, event by event

-- what was told so far, and what is left
pub record IsOnTheWay (s : Script) (exits : List Exit) (all rest : List HallEvent) (p : Planner) : Type 0 where
  pub told : List HallEvent
  pub stands : Stands s exits told p
  pub quiet : IsAnswered s exits p
  pub parts : told ++ rest ≡ all
  pub left : AreTold rest

pub sets_out : (s : Script) (exits : List Exit) (told events : List HallEvent) (p : Planner) → Stands s exits told p → IsAnswered s exits p → AreTold events → IsOnTheWay s exits (told ++ events) events p
sets_out s exits told events p st quiet left = record { told = told; stands = st; quiet = quiet; parts = refl; left = left }

told_one : (all told rest more : List HallEvent) (e : HallEvent) → rest ≡ e ∷ more → told ++ rest ≡ all → (told ++ e ∷ []) ++ more ≡ all
told_one all told rest more e next parts = append_assoc told (e ∷ []) more ∙ sym (ap (λ (xs : List HallEvent). told ++ xs) next) ∙ parts

module _ (s : Script) (exits : List Exit) (all rest more : List HallEvent) (e : HallEvent) (p q : Planner) (next : rest ≡ e ∷ more) (way : IsOnTheWay s exits all rest p) where
  pub goes_on : Stands s exits (way.told ++ e ∷ []) q × IsAnswered s exits q → IsOnTheWay s exits all more q
  goes_on h =
      let left : AreTold (e ∷ more) = subst AreTold next way.left in
      record {
        told = way.told ++ e ∷ [];
        stands = h.0;
        quiet = h.1;
        parts = told_one all way.told rest more e next way.parts;
        left = left.1;
      }

  pub told_next : IsTold e
  told_next = (subst AreTold next way.left).0

  pub fails_later : (f : PlanFault) → AnswersFrom s exits (way.told ++ e ∷ []) (p.events ++ e ∷ []) q (Err f) → TellsAll s exits all q (Err f)
  fails_later SourceTooLong h = absurd h
  fails_later (Unending m) h = record {
    before = p.events ++ e ∷ [];
    told = way.told ++ e ∷ [];
    rest = more;
    goes = h.0;
    all = told_one all way.told rest more e next way.parts;
    asks = h.1;
  }
  fails_later Memory h = tt

pub told_all : (s : Script) (exits : List Exit) (all rest : List HallEvent) (p : Planner) → rest ≡ [] → IsOnTheWay s exits all rest p → TellsAll s exits all p (Ok tt)
told_all s exits all rest p none way =
    (subst (λ (es : List HallEvent). Stands s exits es p) (sym (append-nil way.told) ∙ sym (ap (λ (xs : List HallEvent). way.told ++ xs) none) ∙ way.parts) way.stands, way.quiet)

-- the whole plan

pub fails_to_begin : (s : Script) (t : Timeline) (f : PlanFault) → Begins s (Err f) → Plans s t (Err f)
fails_to_begin s t SourceTooLong h = h
fails_to_begin s t (Unending m) h = absurd h
fails_to_begin s t Memory h = h

pub fails_at_once : (s : Script) (t : Timeline) (before : List HallEvent) (p : Planner) (f : PlanFault) → is_too_long s ≡ false → AnswersFrom s t.exits [] before p (Err f) → Plans s t (Err f)
fails_at_once s t before p SourceTooLong short h = absurd h
fails_at_once s t before p (Unending m) short h = (
  short,
  record {
    before = before;
    told = [];
    rest = t.events;
    goes = h.0;
    all = refl;
    asks = h.1;
  },
)
fails_at_once s t before p Memory short h = short

-- the events of a timeline are those of its list
pub told_list : (s : Script) (exits : List Exit) (es fs : List HallEvent) (q : Planner) (r : Result (Unit {0}) PlanFault) → es ≡ fs → TellsAll s exits es q r → TellsAll s exits fs q r
told_list s exits es fs q r same h = subst (λ (xs : List HallEvent). TellsAll s exits xs q r) same h

pub fails_on_the_way : (s : Script) (t : Timeline) (q : Planner) (f : PlanFault) → is_too_long s ≡ false → TellsAll s t.exits t.events q (Err f) → Plans s t (Err f)
fails_on_the_way s t q SourceTooLong short h = absurd h
fails_on_the_way s t q (Unending m) short h = (short, h)
fails_on_the_way s t q Memory short h = short

pub plans_all : (s : Script) (t : Timeline) (p : Planner) (r : Result (List HallEvent) PlanFault) → is_too_long s ≡ false → TellsAll s t.exits t.events p (Ok tt) → IfOk r (λ es. es ≡ p.events) → OnOk r (IsWhole p) → IfErr r (λ f. f ≡ Memory) → Plans s t r
plans_all s t p (Ok es) short told same whole memory =
    let st = told.0 in
    let quiet = told.1 in (
      short,
      subst (λ (xs : List HallEvent). Planned s t xs) (sym same) (record {
        goes = st.goes (whole st.kept st.alone);
        done = quiet.done (whole quiet.kept quiet.alone);
      }),
    )
plans_all s t p (Err f) short told same whole memory = subst (λ (g : PlanFault). Plans s t (Err g)) (sym memory) short

pub all_fit : (s : Script) (exits : List Exit) (events : List HallEvent) (p : Planner) (r : Result (List HallEvent) PlanFault) → TellsAll s exits events p (Ok tt) → IfOk r (λ es. es ≡ p.events) → IfOk r (λ es. AllFit To999 es)
all_fit s exits events p (Ok es) told same = subst (AllFit To999) (sym same) (told.0).fit
all_fit s exits events p (Err f) told same = tt
