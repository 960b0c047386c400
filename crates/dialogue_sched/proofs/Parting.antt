-- Events that are taken part by part.
use Rattle.std.proofs.Common.{◌≡◌, ℕ, suc, ◌+◌, List, [], ◌∷◌, ◌++◌, length, refl, sym, ap, subst, ◌∙◌, append-nil, append_assoc, length-append, arith, Option, Some, None, Ok, Err}
use Rattle.std.specs.Prelude.{Result}
use Rattle.child_events.specs.declared.event.Event.{Event}
use Rattle.child_events.specs.declared.event.HallEvent.{HallEvent}
use Rattle.child_events.specs.declared.faults.LogFault.{LogFault}
use Rattle.child_events.specs.World.{own}
use Rattle.child_events.specs.Judging.{front_of}
use Rattle.tcl_eval.specs.Suspended.{IsOver}
use Rattle.session.specs.Left.{Kept, left, Fed}
use Rattle.dialogue_sched.specs.declared.refusal.HallRefusal.{HallRefusal}
use Rattle.dialogue_sched.specs.Refusal.{refusal_of, refused_or, first_refusal, IsAcceptedTo}
use Rattle.dialogue_sched.specs.Took.{Took, AllTook}
use Rattle.dialogue_sched.specs.declared.script.Script.{Script}
use Rattle.dialogue_sched.specs.declared.run.RunFault.{RunFault}
use Rattle.dialogue_sched.specs.declared.run.RunFault.TheVariants.{Refused, New}
use Rattle.dialogue_sched.specs.declared.run.RunFault.TheVariants as run
use Rattle.dialogue_sched.specs.declared.run.LogRunFault.{LogRunFault}
use Rattle.dialogue_sched.specs.declared.run.LogRunFault.TheVariants.{Log, Run}
use Rattle.dialogue_sched.specs.Hall.{opening_fault, Begins, AllBegin}
use Rattle.dialogue_sched.specs.Run.{OpensFor, log_first, StopsAtPart, TakesLog, RunsLog}
use Rattle.dialogue_sched.proofs.Reaching.{own_append}
use Rattle.dialogue_sched.proofs.Pairing.{Paired-length}
use Rattle.dialogue_sched.proofs.Running.{as_many}

one_join : (es fs : List Event) (a b c : Kept) → Took a es b → Took b fs c → Took a (es ++ fs) c
one_join [] fs a b c s t = subst (λ (k : Kept). Took k fs c) s t
one_join (e ∷ es) [] a b c s t = subst (λ (k : Kept). Fed a (e ∷ (es ++ [])) k) (sym t) (subst (λ (xs : List Event). Fed a (e ∷ xs) b) (sym (append-nil es)) s)
one_join (e ∷ es) (f ∷ fs) a b c s t = record {
  handed = t.handed ∙ s.handed;
  lived = λ lives. s.lived (t.lived lives);
  over = λ over. t.over (subst (λ (k : Kept). IsOver k.mode) (sym (s.over over)) over) ∙ s.over over;
  says = λ lives later.
      t.says lives later ∙ s.says (t.lived lives) ((f ∷ fs) ++ later) ∙ ap (λ (xs : List Event). left a xs) (sym (append_assoc (e ∷ es) (f ∷ fs) later));
}

-- what was taken, and then more of it
pub took_join : (n : ℕ) (es fs : List HallEvent) (ks ls ms : List Kept) → AllTook n es ks ls → AllTook n fs ls ms → AllTook n (es ++ fs) ks ms
took_join n es fs [] [] [] s t = tt
took_join n es fs [] [] (c ∷ ms) s t = absurd t
took_join n es fs [] (b ∷ ls) ms s t = absurd s
took_join n es fs (a ∷ ks) [] ms s t = absurd s
took_join n es fs (a ∷ ks) (b ∷ ls) [] s t = absurd t
took_join n es fs (a ∷ ks) (b ∷ ls) (c ∷ ms) s t = (
  subst (λ (xs : List Event). Took a xs c) (sym (own_append n es fs)) (one_join (own n es) (own n fs) a b c s.0 t.0),
  took_join (n + 1) es fs ks ls ms s.1 t.1,
)

pub took_none : (n : ℕ) (ks : List Kept) → AllTook n [] ks ks
took_none n [] = tt
took_none n (k ∷ ks) = (refl, took_none (n + 1) ks)

took_len : (n : ℕ) (es : List HallEvent) (ks ls : List Kept) → AllTook n es ks ls → length ls ≡ length ks
took_len n es [] [] t = refl
took_len n es [] (b ∷ ls) t = absurd t
took_len n es (a ∷ ks) [] t = absurd t
took_len n es (a ∷ ks) (b ∷ ls) t = ap suc (took_len (n + 1) es ks ls t.1)

-- where a front is accepted, the rest is counted from there
refusal_behind : (n at to : ℕ) (xs ys : List HallEvent) → to ≡ at + length xs → first_refusal n at xs ≡ None → first_refusal n at (xs ++ ys) ≡ first_refusal n to ys
refusal_behind n at to [] ys is none = ap (λ (i : ℕ). first_refusal n i ys) (omega (arith, is))
refusal_behind n at to (x ∷ xs) ys is none = by_cases (refusal_of n x) none (refusal_behind n (at + 1) to xs ys (omega (arith, is)))
  where
    by_cases : (r : Option HallRefusal) → refused_or at r (first_refusal n (at + 1) xs) ≡ None → (first_refusal n (at + 1) xs ≡ None → first_refusal n (at + 1) (xs ++ ys) ≡ first_refusal n to ys) → refused_or at r (first_refusal n (at + 1) (xs ++ ys)) ≡ first_refusal n to ys
    by_cases None h more = more h
    by_cases (Some r) h more = absurd (cc)

-- the first refused event of a part is the first of all
pub refused_first : (n at : ℕ) (xs ys : List HallEvent) (found : ℕ × HallRefusal) → first_refusal n at xs ≡ Some found → first_refusal n at (xs ++ ys) ≡ Some found
refused_first n at [] ys found h = absurd (cc)
refused_first n at (x ∷ xs) ys found h = by_cases (refusal_of n x) h (refused_first n (at + 1) xs ys found)
  where
    by_cases : (r : Option HallRefusal) → refused_or at r (first_refusal n (at + 1) xs) ≡ Some found → (first_refusal n (at + 1) xs ≡ Some found → first_refusal n (at + 1) (xs ++ ys) ≡ Some found) → refused_or at r (first_refusal n (at + 1) (xs ++ ys)) ≡ Some found
    by_cases None h more = more h
    by_cases (Some r) h more = h

-- what a log says, or why it says nothing
abbrev pub Said : Type 0
Said = Result (List HallEvent) LogFault

front_none : (said : Said) → said ≡ front_of [] said
front_none (Ok es) = refl
front_none (Err f) = refl

front_twice : (front part : List HallEvent) (said : Said) → front_of front (front_of part said) ≡ front_of (front ++ part) said
front_twice front part (Ok es) = ap Ok (sym (append_assoc front part es))
front_twice front part (Err f) = refl

-- of all that is said, the front that was taken, so many events, and what is left
pub record TakenTo (all rest : Said) (at : ℕ) (olds news : List Kept) : Type 0 where
  pub front : List HallEvent
  pub same : all ≡ front_of front rest
  pub many : at ≡ length front
  pub accepted : first_refusal (length olds) 0 front ≡ None
  pub took : AllTook 1 front olds news

pub taken_none : (all : Said) (ks : List Kept) → TakenTo all all 0 ks ks
taken_none all ks = record { front = []; same = front_none all; many = refl; accepted = refl; took = took_none 1 ks }

module _ (all rest : Said) (at : ℕ) (olds news : List Kept) (t : TakenTo all rest at olds news) where
  news_len : length news ≡ length olds
  news_len = took_len 1 t.front olds news t.took

  pub accepted_front : IsAcceptedTo (length olds) all rest
  accepted_front = record { front = t.front; same = t.same; accepted = t.accepted }

  -- a fault is left
  pub stopped_part : (fault : LogRunFault) → StopsAtPart rest fault → TakesLog all olds news (Err fault)
  stopped_part (Log f) stops = t.same ∙ ap (front_of t.front) stops
  stopped_part (Run f) stops = subst (λ (g : RunFault). TakesLog all olds news (Err (Run g))) (sym stops) tt

  -- nothing is left
  pub taken_all : rest ≡ Ok [] → TakesLog all olds news (Ok tt)
  taken_all none = (t.front, t.same ∙ ap (front_of t.front) none ∙ ap Ok (append-nil t.front), t.accepted, t.took)

  module _ (part : List HallEvent) (others : Said) (split : rest ≡ front_of part others) where
    -- a part of what is left, at its place
    refused_part : first_refusal (length olds) 0 (t.front ++ part) ≡ first_refusal (length olds) at part
    refused_part = refusal_behind (length olds) 0 at t.front part (omega (arith, t.many)) t.accepted

    same_more : all ≡ front_of (t.front ++ part) others
    same_more = t.same ∙ ap (front_of t.front) split ∙ front_twice t.front part others

    -- a part is accepted, too
    accepted_part : first_refusal (length news) at part ≡ None → first_refusal (length olds) 0 (t.front ++ part) ≡ None
    accepted_part none = refused_part ∙ ap (λ (n : ℕ). first_refusal n at part) (sym news_len) ∙ none

    pub accepted_more : first_refusal (length news) at part ≡ None → IsAcceptedTo (length olds) all others
    accepted_more none = record { front = t.front ++ part; same = same_more; accepted = accepted_part none }

    pub taken_more : (lasts : List Kept) → first_refusal (length news) at part ≡ None → AllTook 1 part news lasts → TakenTo all others (at + length part) olds lasts
    taken_more lasts none took = record {
      front = t.front ++ part;
      same = same_more;
      many = omega (arith, length-append t.front part, t.many);
      accepted = accepted_part none;
      took = took_join 1 t.front part olds news lasts t.took took;
    }

    -- an event of it is refused: the first of all, where the log has no fault
    pub refused_all : (n : ℕ) (r : HallRefusal) → first_refusal (length news) at part ≡ Some (n, r) → TakesLog all olds news (Err (log_first others (Refused n r)))
    refused_all n r some = by_cases others same_more
      where
        by_cases : (behind : Said) → all ≡ front_of (t.front ++ part) behind → TakesLog all olds news (Err (log_first behind (Refused n r)))
        by_cases (Ok es) same = (
          t.front ++ part ++ es,
          same,
          refused_first (length olds) 0 (t.front ++ part) es (n, r) (refused_part ∙ ap (λ (n : ℕ). first_refusal n at part) (sym news_len) ∙ some),
        )
        by_cases (Err f) same = same

-- why a run stopped
pub run_stopped : (scripts : List Script) (said : Said) (old new : List Kept) (fault : LogRunFault) → (opening_fault scripts ≡ None) × AllBegin scripts old → TakesLog said old new (Err fault) → RunsLog scripts said (Err fault)
run_stopped scripts said old new (Log f) opened t = t
run_stopped scripts said old new (Run (New fault)) opened t = absurd t
run_stopped scripts said old new (Run (Refused at r)) opened t = (t.0, t.1, (opened.0, as_many scripts t.0 old opened ∙ t.2))
run_stopped scripts said old new (Run run.Memory) opened t = opened.0

-- why it was not begun
pub run_unopened : (scripts : List Script) (said : Said) (fault : RunFault) → OpensFor scripts (Err fault) → RunsLog scripts said (Err (log_first said fault))
run_unopened scripts (Err f) fault opens = refl
run_unopened scripts (Ok es) (New fault) opens = (es, refl, opens)
run_unopened scripts (Ok es) (Refused at r) opens = absurd opens
run_unopened scripts (Ok es) run.Memory opens = opens

pub accepted_none : (scripts : ℕ) (said : Said) → IsAcceptedTo scripts said said
accepted_none scripts said = record { front = []; same = front_none said; accepted = refl }

pub accepted_of : (scripts : List Script) (old : List Kept) (all rest : Said) → (opening_fault scripts ≡ None) × AllBegin scripts old → IsAcceptedTo (length old) all rest → IsAcceptedTo (length scripts) all rest
accepted_of scripts old all rest opened = subst (λ (n : ℕ). IsAcceptedTo n all rest) (sym (Paired-length Begins scripts old opened.1))
