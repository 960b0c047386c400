-- From what each worker has served to what all have.
use Rattle.std.proofs.Common.{◌≡◌, ◌≢◌, ◌⊎◌, inl, inr, ℕ, zero, suc, ◌+◌, ◌-◌, ◌*◌, ◌/◌, ◌%◌, ◌<◌, List, [], ◌∷◌, ◌++◌, map, length, Option, Some, None, refl, sym, ap, subst, ◌∙◌, arith}
use Rattle.std.specs.Prelude.{slice_get, Bool, true, false, ◌||◌, IsTrue, Contains, ◌==◌, ◌&&◌, if◌then◌else◌}
use Rattle.std.specs.List.{flat_map}
use Rattle.std.proofs.Math.Nat.{mod-lt}
use Rattle.std.proofs.lemmas.Nat.{div-add-mod'}
use Rattle.std.proofs.lemmas.Option.{slice_get_within}
use Rattle.std.proofs.lemmas.List.Elements.{Contains-append_left, Contains-append_right}
use Rattle.child_events.specs.declared.event.Answer.{Answer}
use Rattle.child_events.specs.declared.event.Event.{Event}
use Rattle.child_events.specs.declared.event.What.{What}
use Rattle.child_events.specs.World.{own}
use Rattle.tcl_host.specs.declared.ending.Ending.TheVariants.{Waiting}
use Rattle.expect_core.specs.declared.request.Request.{Request}
use Rattle.session.specs.declared.report.Report.{Report}
use Rattle.session.specs.Meaning.{meaning}
use Rattle.session.specs.Spent.{memory_report}
use Rattle.session.specs.Growth.{Continues}
use Rattle.dialogue_sched.specs.declared.script.Script.{Script}
use Rattle.dialogue_sched.specs.Ticks.{Rises, WithTicks, none, kept, tick}
use Rattle.dialogue_sched.proofs.Ticking.{ticks_change_nothing, ticks_only_add}
use Rattle.child_events.specs.declared.event.HallEvent.{HallEvent}
use Rattle.child_desk.specs.Book.{ring_log}
use Rattle.child_serve.specs.declared.served.WorkerResult.{WorkerResult}
use Rattle.child_serve.specs.declared.served.Served.{Served}
use Rattle.child_serve.specs.declared.served.Unsettled.{Unsettled}
use Rattle.run_records.specs.Joined.{script_of, EachSees}
use Rattle.child_hands.specs.Record.{Ascends}
use Rattle.child_serve.specs.Turns.{in_turn}
use Rattle.child_hands.specs.Handed.{starts}
use Rattle.child_serve.specs.Given.{IsGiven, started_by}
use Rattle.child_desk.specs.Heard.{said_in, said_by}
use Rattle.child_desk.specs.Told.{Reply, answer_in, answers_in, reply_in, replies_in, AreTold, AreOf}
use Rattle.child_desk.proofs.Places.{nothing_there, one_there}
use Rattle.child_desk.proofs.Telling.{of_more}
use Rattle.child_desk.specs.Line.{Keeping}
use Rattle.child_serve.specs.Served.{Tells, IsServed, AreServed, IsPart, AreParts, records_of, is_any}
use Rattle.run_records.proofs.Merging.{ascends_own}
use Rattle.child_serve.proofs.Turning.{Enough, turn_length, turn_at}

-- ticks bring no answer and no output

same_answers : (es more : List Event) → WithTicks es more → answers_in more ≡ answers_in es
same_answers xs ys none = refl
same_answers xs ys (kept e es more p) = ap (λ (l : List Answer). answer_in e ++ l) (same_answers es more p)
same_answers xs ys (tick m es more p) = same_answers es more p

same_replies : (es more : List Event) → WithTicks es more → replies_in more ≡ replies_in es
same_replies xs ys none = refl
same_replies xs ys (kept e es more p) = ap (λ (l : List Reply). reply_in e ++ l) (same_replies es more p)
same_replies xs ys (tick m es more p) = same_replies es more p

same_said : (child : ℕ) (es more : List Event) → WithTicks es more → said_by child more ≡ said_by child es
same_said child xs ys none = refl
same_said child xs ys (kept e es more p) = ap (λ (l : List What). said_in child e ++ l) (same_said child es more p)
same_said child xs ys (tick m es more p) = same_said child es more p

-- ticks put into events that had ticks put in
more_ticks : (es es' more : List Event) → WithTicks es es' → WithTicks es' more → WithTicks es more
more_ticks xs ys zs p (tick m es more q) = tick m xs more (more_ticks xs es more p q)
more_ticks xs ys zs none none = none
more_ticks xs ys zs (kept e es es' p) (kept e' es'' more q) = kept e es more (more_ticks es es' more p q)
more_ticks xs ys zs (tick m es es' p) (kept e es'' more q) = tick m es more (more_ticks es es' more p q)

module _ (told : ℕ → ℕ → Request → Answer → Type 0) (gives : ℕ → ℕ → Option (List ℕ) → Type 0) where
  -- more requests than those that were answered

  told_more : (name n : ℕ) (xs : List Answer) (qs more : List Request) → AreTold told name n xs qs → AreTold told name n xs (qs ++ more)
  told_more name n [] qs more t = tt
  told_more name n (a ∷ xs) [] more t = absurd t
  told_more name n (a ∷ xs) (q ∷ qs) more t = (t.0, told_more name (n + 1) xs qs more t.1)

  started_more : (name child n : ℕ) (xs : List Answer) (qs more : List Request) → AreTold told name n xs qs → started_by child n xs (qs ++ more) ≡ started_by child n xs qs
  started_more name child n [] qs more t = refl
  started_more name child n (a ∷ xs) [] more t = absurd t
  started_more name child n (a ∷ xs) (q ∷ qs) more t = ap (λ (o : Option ℕ). if (q.child == child) && starts q a then Some (n + 1) else o) (started_more name child (n + 1) xs qs more t.1)

  given_more : (name made child : ℕ) (xs : List Answer) (qs more : List Request) (said : List What) → AreTold told name made xs qs → IsGiven told gives name made child xs qs said → IsGiven told gives name made child xs (qs ++ more) said
  given_more name made child xs qs more said t s = record {
    started = λ call is. s.started call (sym (started_more name child made xs qs more t) ∙ is);
    any = s.any;
  }

  -- a script's part of its worker's record, and of the joined one

  ended_on : (script : Script) (report : Report) (old new : Bool) (es more : List Event) → Rises more → WithTicks es more → (IsTrue old → IsTrue new) →
      Tells script report old es → Tells script report new more
  ended_on script report old new es more up p still (inr (inl memory)) = inr (inl memory)
  ended_on script report old new es more up p still (inr (inr (stopped, waiting, (seen, q, is)))) = inr (inr (still stopped, waiting, (seen, more_ticks seen es more q p, is)))
  ended_on script report old new es more up p still (inl (is, ends)) =
      inl (is ∙ sym (ticks_change_nothing script.source script.settings es more up p (λ w. ends (ap (λ (r : Report). r.ending) is ∙ w))), ends)

  pub served_on : (number : ℕ) (keeper : Keeping) (script : Script) (report : Report) (old new : List Unsettled) (stopped stopped' : Bool) (es more : List Event) → Rises more → WithTicks es more →
      ((u : Unsettled) → Contains old u → Contains new u) → (IsTrue stopped → IsTrue stopped') →
      IsServed told gives number keeper script report old stopped es → IsServed told gives number keeper script report new stopped' more
  served_on number keeper script report old new stopped stopped' es more up p among still s = record {
    ended = ended_on script report stopped stopped' es more up p still s.ended;
    answers = subst (λ (xs : List Answer). AreTold told keeper.name keeper.made xs asked) (sym (same_answers es more p))
        (subst (AreTold told keeper.name keeper.made (answers_in es)) (sym grown.asked) (told_more keeper.name keeper.made (answers_in es) before grown.more s.answers));
    children = subst (λ (xs : List Reply). AreOf xs asked) (sym (same_replies es more p)) (subst (AreOf (replies_in es)) (sym grown.asked) (of_more (replies_in es) before grown.more s.children));
    given = λ child low high apart.
        subst (IsGiven told gives keeper.name keeper.made child (answers_in more) asked) (sym (same_said child es more p))
        (subst (λ (xs : List Answer). IsGiven told gives keeper.name keeper.made child xs asked (said_by child es)) (sym (same_answers es more p))
        (subst (λ (qs : List Request). IsGiven told gives keeper.name keeper.made child (answers_in es) qs (said_by child es)) (sym grown.asked)
        (given_more keeper.name keeper.made child (answers_in es) before grown.more (said_by child es) s.answers (s.given child low high (λ listed. apart (among _ listed))))));
  }
    where
      before : List Request
      before = (meaning script.source script.settings es).requests

      asked : List Request
      asked = (meaning script.source script.settings more).requests

      grown : Continues (meaning script.source script.settings es) (meaning script.source script.settings more)
      grown = ticks_only_add script.source script.settings es more up p

pub there : {X : Type 0} → (xs : List X) (i : ℕ) → i < length xs → (x : X) × (slice_get xs i ≡ Some x)
there [] i lt = absurd (omega (arith, lt))
there (x ∷ xs) zero lt = (x, refl)
there (x ∷ xs) (suc i) lt = there xs i (omega (arith, lt))

pub mapped : {X Y : Type 0} (f : X → Y) (xs : List X) (i : ℕ) (x : X) → slice_get xs i ≡ Some x → slice_get (map f xs) i ≡ Some (f x)
mapped f [] i x h = absurd (no_x x h)
  where
    no_x : {X : Type 0} (x : X) → ◌≡◌ {A = Option X} None (Some x) → ⊥
    no_x x h = cc
mapped f (y ∷ xs) zero x h = let e : y ≡ x = cc in ap (λ z. Some (f z)) e
mapped f (y ∷ xs) (suc i) x h = mapped f xs i x h

pub unmapped : {X Y : Type 0} (f : X → Y) (xs : List X) (i : ℕ) (y : Y) → slice_get (map f xs) i ≡ Some y → (x : X) × (slice_get xs i ≡ Some x) × (f x ≡ y)
unmapped f [] i y h = absurd (no_y y h)
  where
    no_y : {Y : Type 0} (y : Y) → ◌≡◌ {A = Option Y} None (Some y) → ⊥
    no_y y h = cc
unmapped f (x ∷ xs) zero y h = (x, refl, (cc))
unmapped f (x ∷ xs) (suc i) y h = unmapped f xs i y h

pub map_length : {X Y : Type 0} (f : X → Y) (xs : List X) → length (map f xs) ≡ length xs
map_length f [] = refl
map_length f (x ∷ xs) = ap suc (map_length f xs)

-- what one of them has, all have
among_all : {V U : Type 0} (of : V → List U) (vs : List V) (w : ℕ) (v : V) (u : U) → slice_get vs w ≡ Some v → Contains (of v) u → Contains (flat_map of vs) u
among_all of [] w v u got h = absurd (nothing_there v got)
among_all of (x ∷ vs) zero v u got h = Contains-append_left (of x) _ u (subst (λ y. Contains (of y) u) (sym (one_there x v got)) h)
among_all of (x ∷ vs) (suc w) v u got h = Contains-append_right (of x) _ u (among_all of vs w v u got h)

or_left : (b c : Bool) → IsTrue b → IsTrue (b || c)
or_left true c h = refl
or_left false c h = absurd (cc)

or_right : (b c : Bool) → IsTrue c → IsTrue (b || c)
or_right true c h = refl
or_right false c h = h

-- where one of them was given up, that is so of all
one_stopped : (bs : List Bool) (w : ℕ) (b : Bool) → slice_get bs w ≡ Some b → IsTrue b → IsTrue (is_any bs)
one_stopped [] w b got h = absurd (nothing_there b got)
one_stopped (x ∷ bs) zero b got h = or_left x (is_any bs) (subst IsTrue (sym (one_there x b got)) h)
one_stopped (x ∷ bs) (suc w) b got h = or_right x (is_any bs) (one_stopped bs w b got h)

module _ (told : ℕ → ℕ → Request → Answer → Type 0) (gives : ℕ → ℕ → Option (List ℕ) → Type 0)
    (keepers : List Keeping) (scripts : List Script) (parts : List WorkerResult) (es : List HallEvent) (s : Served) (some : 0 < length parts) (are : AreParts told gives keepers scripts parts)
    (up : Ascends es) (sees : EachSees (records_of parts) es)
    (reports : s.reports ≡ in_turn (length scripts) (map (λ (p : WorkerResult). p.served.reports) parts))
    (unsettled : s.unsettled.items ≡ flat_map (λ (p : WorkerResult). p.served.unsettled.items) parts)
    (stopped : s.stopped ≡ is_any (map (λ (p : WorkerResult). p.served.stopped) parts)) where
  abbrev n : ℕ
  n = length parts

  abbrev of : List (List Report)
  of = map (λ (p : WorkerResult). p.served.reports) parts

  enough : Enough n (length scripts) of
  enough w i part got lt =
      let h = unmapped (λ (p : WorkerResult). p.served.reports) parts w part got in
      let mine = are w h.0 h.1 in
      let script = there scripts (i * n + w) lt in
      let within : i < length mine.few = slice_get_within mine.few i script.0 (mine.dealt i ∙ script.1) in
      subst (λ (l : List Report). i < length l) h.2 (omega (arith, within, mine.served.count))

  as_many : n ≡ length of
  as_many = sym (map_length (λ (p : WorkerResult). p.served.reports) parts)

  of_one : (i : ℕ) (keeper : Keeping) (script : Script) (report : Report) → slice_get keepers i ≡ Some keeper → slice_get scripts i ≡ Some script → slice_get s.reports i ≡ Some report →
      IsServed told gives (i + 1) keeper script report s.unsettled.items s.stopped (own (i + 1) es)
  of_one i keeper script report got_keeper got_script got_report =
      subst (λ (k : ℕ). IsServed told gives k keeper script report s.unsettled.items s.stopped (own k es)) number
      (served_on told gives (script_of n (i % n) ((i / n) + 1)) keeper script report p.0.served.unsettled.items s.unsettled.items p.0.served.stopped s.stopped (own ((i / n) + 1) (ring_log p.0.log)) (own (script_of n (i % n) ((i / n) + 1)) es)
      (ascends_own (script_of n (i % n) ((i / n) + 1)) es up)
      (subst (λ (m : ℕ). WithTicks (own ((i / n) + 1) (ring_log p.0.log)) (own (script_of m (i % n) ((i / n) + 1)) es)) (map_length (λ (x : WorkerResult). ring_log x.log) parts)
      (sees (i % n) ((i / n) + 1) (ring_log p.0.log) (mapped (λ (x : WorkerResult). ring_log x.log) parts (i % n) p.0 p.1) (omega arith)))
      (λ u h. subst (λ (l : List Unsettled). Contains l u) (sym unsettled) (among_all (λ (x : WorkerResult). x.served.unsettled.items) parts (i % n) p.0 u p.1 h))
      (λ h. stopped ∙ one_stopped (map (λ (x : WorkerResult). x.served.stopped) parts) (i % n) p.0.served.stopped (mapped (λ (x : WorkerResult). x.served.stopped) parts (i % n) p.0 p.1) h)
      (mine.served.each (i / n) keeper script report
      (mine.kept (i / n) ∙ ap (slice_get keepers) place ∙ got_keeper)
      (mine.dealt (i / n) ∙ ap (slice_get scripts) place ∙ got_script)
      (sym (turn_at n (length scripts) of as_many enough (i % n) (i / n) p.0.served.reports (mapped (λ (x : WorkerResult). x.served.reports) parts (i % n) p.0 p.1) (omega (arith, place, slice_get_within scripts i script got_script)))
      ∙ ap (slice_get (in_turn (length scripts) of)) place
      ∙ ap (λ (l : List Report). slice_get l i) (sym reports)
      ∙ got_report)))
    where
      place : i / n * n + i % n ≡ i
      place = div-add-mod' i n

      p : (x : WorkerResult) × (slice_get parts (i % n) ≡ Some x)
      p = there parts (i % n) (mod-lt i some)

      mine : IsPart told gives n (i % n) keepers scripts p.0
      mine = are (i % n) p.0 p.1

      number : script_of n (i % n) ((i / n) + 1) ≡ i + 1
      number = let e : (i / n) + 1 - 1 ≡ (i / n) = omega arith in ap (λ (k : ℕ). k * n + (i % n) + 1) e ∙ ap (λ (k : ℕ). k + 1) place

  pub all_served : AreServed told gives (λ i. i + 1) keepers scripts es s
  all_served = record {
    count = ap length reports ∙ turn_length n (length scripts) of as_many some enough;
    each = of_one;
  }
