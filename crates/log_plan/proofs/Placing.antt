-- Events that come behind others.
use Rattle.std.proofs.Common.{◌≡◌, ℕ, ◌+◌, ◌≤◌, List, [], ◌∷◌, ◌++◌, length, Bool, true, false, Option, Some, None, refl, sym, ap, subst, ◌∙◌, append_assoc, append-nil, arith}
use Rattle.std.specs.Prelude.{nat_le, IsTrue, IfSome, max, ◌&&◌, if◌then◌else◌}
use Rattle.std.proofs.lemmas.Bool.Decides.{nat_tests}
use Rattle.child_events.specs.declared.child_numbers.ChildNumbers.TheVariants.{To999}
use Rattle.child_events.specs.declared.event.Event.{Event}
use Rattle.child_events.specs.declared.event.Event.TheVariants as event
use Rattle.child_events.specs.declared.event.What.{What}
use Rattle.child_events.specs.declared.event.What.TheVariants as what
use Rattle.child_events.specs.declared.event.HallEvent.{HallEvent}
use Rattle.child_events.specs.declared.event.HallEvent.TheVariants as hall
use Rattle.child_events.specs.World.{own, moment_of, horizon_of, horizon_from}
use Rattle.child_events.specs.Log.{fits, AllFit}
use Rattle.child_events.specs.Log.{piece_len as logged_len}
use Rattle.child_events.proofs.Worlds.{own-append}
use Rattle.dialogue_sched.specs.declared.script.Script.{Script}
use Rattle.dialogue_sched.specs.declared.refusal.HallRefusal.{HallRefusal}
use Rattle.dialogue_sched.specs.declared.refusal.HallRefusal.TheVariants.{MomentTooLarge}
use Rattle.dialogue_sched.specs.Refusal.{refusal_of, is_number, piece_len}
use Rattle.child_timeline.specs.declared.exits.Exit.{Exit}
use Rattle.child_timeline.specs.Told.{is_answer, IsTold}
use Rattle.log_plan.specs.Plan.{answers, due_after, unless_due, undue, IsDue, AreDue, GoesOn}
use Rattle.log_plan.specs.Standing.{moment_in}

answers_append : (es fs : List HallEvent) → answers (es ++ fs) ≡ answers es ++ answers fs
answers_append [] fs = refl
answers_append (e ∷ es) fs = by_test (is_answer e) (answers_append es fs)
  where
    by_test : (t : Bool) → answers (es ++ fs) ≡ answers es ++ answers fs → (if t then e ∷ answers (es ++ fs) else answers (es ++ fs)) ≡ (if t then e ∷ answers es else answers es) ++ answers fs
    by_test true h = ap (λ (xs : List HallEvent). e ∷ xs) h
    by_test false h = h

pub length_more : (xs : List HallEvent) (e : HallEvent) → length (xs ++ e ∷ []) ≡ length xs + 1
length_more [] e = refl
length_more (x ∷ xs) e = omega (arith, length_more xs e)

pub one_more_answer : (es : List HallEvent) (e : HallEvent) → is_answer e ≡ true → length (answers (es ++ e ∷ [])) ≡ length (answers es) + 1
one_more_answer es e h =
    ap (λ (xs : List HallEvent). length xs) (answers_append es (e ∷ []))
    ∙ ap (λ (t : Bool). length (answers es ++ (if t then e ∷ [] else []))) h
    ∙ length_more (answers es) e

pub no_more_answers : (es : List HallEvent) (e : HallEvent) → is_answer e ≡ false → length (answers (es ++ e ∷ [])) ≡ length (answers es)
no_more_answers es e h =
    ap (λ (xs : List HallEvent). length xs) (answers_append es (e ∷ []))
    ∙ ap (λ (t : Bool). length (answers es ++ (if t then e ∷ [] else []))) h
    ∙ ap (λ (xs : List HallEvent). length xs) (append-nil (answers es))

-- the undue ones among more events
pub undue_append : (s : Script) (exits : List Exit) (before es fs : List HallEvent) → undue s exits before (es ++ fs) ≡ undue s exits before es ++ undue s exits (before ++ es) fs
undue_append s exits before [] fs = ap (λ (xs : List HallEvent). undue s exits xs fs) (sym (append-nil before))
undue_append s exits before (e ∷ es) fs =
    by_due (due_after s exits before)
    (undue_append s exits (before ++ e ∷ []) es fs ∙ ap (λ (xs : List HallEvent). undue s exits (before ++ e ∷ []) es ++ undue s exits xs fs) (append_assoc before (e ∷ []) es))
  where
    by_due : (d : Option HallEvent) → undue s exits (before ++ e ∷ []) (es ++ fs) ≡ undue s exits (before ++ e ∷ []) es ++ undue s exits (before ++ e ∷ es) fs
        → unless_due d e (undue s exits (before ++ e ∷ []) (es ++ fs)) ≡ unless_due d e (undue s exits (before ++ e ∷ []) es) ++ undue s exits (before ++ e ∷ es) fs
    by_due (Some d) h = h
    by_due None h = ap (λ (xs : List HallEvent). e ∷ xs) h

-- due events, and more of them
due_parts : (s : Script) (exits : List Exit) (before es fs : List HallEvent) → AreDue s exits before (es ++ fs) → AreDue s exits before es × AreDue s exits (before ++ es) fs
due_parts s exits before [] fs h = (tt, subst (λ (xs : List HallEvent). AreDue s exits xs fs) (sym (append-nil before)) h)
due_parts s exits before (e ∷ es) fs h =
    let p = due_parts s exits (before ++ e ∷ []) es fs h.1 in
    ((h.0, p.0), subst (λ (xs : List HallEvent). AreDue s exits xs fs) (append_assoc before (e ∷ []) es) p.1)

due_more : (s : Script) (exits : List Exit) (before es : List HallEvent) (e : HallEvent) → AreDue s exits before es → IsDue s exits (before ++ es) e → AreDue s exits before (es ++ e ∷ [])
due_more s exits before [] e due h = (subst (λ (xs : List HallEvent). IsDue s exits xs e) (append-nil before) h, tt)
due_more s exits before (x ∷ es) e due h = (due.0, due_more s exits (before ++ x ∷ []) es e due.1 (subst (λ (xs : List HallEvent). IsDue s exits xs e) (sym (append_assoc before (x ∷ []) es)) h))

-- a plan goes on with what is due
is_due : (s : Script) (exits : List Exit) (es : List HallEvent) (e : HallEvent) → due_after s exits es ≡ Some e → IsDue s exits es e
is_due s exits es e due = subst (λ (d : Option HallEvent). IfSome d (λ x. e ≡ x)) (sym due) refl

pub undue_due : (s : Script) (exits : List Exit) (es : List HallEvent) (e : HallEvent) → due_after s exits es ≡ Some e → undue s exits es (e ∷ []) ≡ []
undue_due s exits es e due = ap (λ (d : Option HallEvent). unless_due d e []) due

pub goes_due : (s : Script) (exits : List Exit) (es told : List HallEvent) (e : HallEvent) → GoesOn s exits [] es told → due_after s exits es ≡ Some e → GoesOn s exits [] (es ++ e ∷ []) told
goes_due s exits es told e goes due = record {
  due = due_more s exits [] es e goes.due (is_due s exits es e due);
  others = undue_append s exits [] es (e ∷ []) ∙ ap (λ (xs : List HallEvent). undue s exits [] es ++ xs) (undue_due s exits es e due) ∙ append-nil (undue s exits [] es) ∙ goes.others;
}

-- a plan goes on with the timeline where nothing is due
pub goes_told : (s : Script) (exits : List Exit) (es told : List HallEvent) (e : HallEvent) → GoesOn s exits [] es told → due_after s exits es ≡ None → GoesOn s exits [] (es ++ e ∷ []) (told ++ e ∷ [])
goes_told s exits es told e goes none = record {
  due = due_more s exits [] es e goes.due (subst (λ (d : Option HallEvent). IfSome d (λ x. e ≡ x)) (sym none) tt);
  others = undue_append s exits [] es (e ∷ [])
      ∙ ap (λ (d : Option HallEvent). undue s exits [] es ++ unless_due d e []) none
      ∙ ap (λ (xs : List HallEvent). xs ++ e ∷ []) goes.others;
}

-- a plan that went on with nothing but what was due
pub goes_parts : (s : Script) (exits : List Exit) (before put told : List HallEvent) → GoesOn s exits [] (before ++ put) told → undue s exits before put ≡ [] → GoesOn s exits [] before told × GoesOn s exits before put []
goes_parts s exits before put told goes all =
    let parts = due_parts s exits [] before put goes.due in (
      record {
        due = parts.0;
        others = sym (append-nil (undue s exits [] before))
            ∙ sym (ap (λ (xs : List HallEvent). undue s exits [] before ++ xs) all)
            ∙ sym (undue_append s exits [] before put)
            ∙ goes.others;
      },
      record { due = parts.1; others = all },
    )

-- a hall of one script takes what a log can have
tests_of : (a b c d : Bool) (p q r s : HallRefusal) → (if a then (if b then (if c then (if d then None else Some p) else Some q) else Some r) else Some s) ≡ None → (a ≡ true) × (b ≡ true) × (c ≡ true) × (d ≡ true)
tests_of true true true true p q r s h = (refl, refl, refl, refl)
tests_of true true true false p q r s h = absurd (some_is p h)
  where
    some_is : (x : HallRefusal) → ◌≡◌ {A = Option HallRefusal} (Some x) None → ⊥
    some_is x h = cc
tests_of true true false d p q r s h = absurd (some_is q h)
  where
    some_is : (x : HallRefusal) → ◌≡◌ {A = Option HallRefusal} (Some x) None → ⊥
    some_is x h = cc
tests_of true false c d p q r s h = absurd (some_is r h)
  where
    some_is : (x : HallRefusal) → ◌≡◌ {A = Option HallRefusal} (Some x) None → ⊥
    some_is x h = cc
tests_of false b c d p q r s h = absurd (some_is s h)
  where
    some_is : (x : HallRefusal) → ◌≡◌ {A = Option HallRefusal} (Some x) None → ⊥
    some_is x h = cc

same_len : (w : What) → piece_len w ≡ logged_len w
same_len (what.Out piece) = refl
same_len what.Eof = refl
same_len (what.ReadFail c) = refl
same_len (what.Answer a) = refl

-- the number of the only script
pub only_script : (n : ℕ) → is_number n 1 ≡ true → n ≡ 1
only_script n h = grind (arith, nat_tests)

child_fits : (c m l : ℕ) → is_number c 16 ≡ true → nat_le m 9000000000000000 ≡ true → nat_le l 4096 ≡ true → IsTrue (nat_le 1 1 && nat_le 1 64 && nat_le 0 c && nat_le c 999 && nat_le m 9000000000000000 && nat_le l 4096)
child_fits c m l child moment len = grind (arith, nat_tests)

pub taken_fits : (e : HallEvent) → refusal_of 1 e ≡ None → IsTrue (fits To999 e)
taken_fits (hall.Tick m) h = by_test (nat_le m 9000000000000000) h
  where
    by_test : (t : Bool) → (if t then None else Some MomentTooLarge) ≡ None → IsTrue t
    by_test true h = refl
    by_test false h = absurd (cc)
taken_fits (hall.Child s c m w) h =
    let t = tests_of (is_number s 1) (is_number c 16) (nat_le m 9000000000000000) (nat_le (piece_len w) 4096) _ _ _ _ h in
    rw (only_script s t.0) (child_fits c m (logged_len w) t.1 t.2 (subst (λ (n : ℕ). nat_le n 4096 ≡ true) (same_len w) t.3))

pub fit_more : (es : List HallEvent) (e : HallEvent) → AllFit To999 es → IsTrue (fits To999 e) → AllFit To999 (es ++ e ∷ [])
fit_more [] e all h = (h, tt)
fit_more (x ∷ es) e all h = (all.0, fit_more es e all.1 h)

-- it sees it
pub own_taken : (e : HallEvent) → refusal_of 1 e ≡ None → (x : Event) × (own 1 (e ∷ []) ≡ x ∷ []) × (moment_of x ≡ moment_in e)
own_taken (hall.Tick m) h = (event.Tick m, refl, refl)
own_taken (hall.Child s c m w) h =
    let t = tests_of (is_number s 1) (is_number c 16) (nat_le m 9000000000000000) (nat_le (piece_len w) 4096) _ _ _ _ h in
    (event.Child c m w, ap (λ (n : ℕ). own 1 (hall.Child n c m w ∷ [])) (only_script s t.0), refl)

-- the greatest moment with an event more
later_from : (n : ℕ) (es : List Event) (x : Event) → horizon_from n (es ++ x ∷ []) ≡ max (horizon_from n es) (moment_of x)
later_from n [] x = refl
later_from n (e ∷ es) x = later_from (max n (moment_of e)) es x

pub later : (es : List HallEvent) (e : HallEvent) → refusal_of 1 e ≡ None → horizon_of (own 1 (es ++ e ∷ [])) ≡ max (horizon_of (own 1 es)) (moment_in e)
later es e h =
    let o = own_taken e h in
    ap horizon_of (own-append 1 es (e ∷ []))
    ∙ ap (λ (xs : List Event). horizon_of (own 1 es ++ xs)) o.1
    ∙ later_from 0 (own 1 es) o.0
    ∙ ap (λ (m : ℕ). max (horizon_of (own 1 es)) m) o.2

pub early_in : (e : HallEvent) → refusal_of 1 e ≡ None → moment_in e ≤ 9000000000000000
early_in (hall.Tick m) h = by_test (nat_le m 9000000000000000) refl h
  where
    by_test : (t : Bool) → nat_le m 9000000000000000 ≡ t → (if t then None else Some MomentTooLarge) ≡ None → m ≤ 9000000000000000
    by_test true e h = grind (arith, nat_tests)
    by_test false e h = absurd (cc)
early_in (hall.Child s c m w) h =
    let t = tests_of (is_number s 1) (is_number c 16) (nat_le m 9000000000000000) (nat_le (piece_len w) 4096) _ _ _ _ h in
    by_test t.2
  where
    by_test : nat_le m 9000000000000000 ≡ true → m ≤ 9000000000000000
    by_test h = grind (arith, nat_tests)

-- a hall of one script takes what a timeline tells
tests_in : (a b c d e f : Bool) → IsTrue (a && b && c && d && e && f) → (c ≡ true) × (d ≡ true) × (e ≡ true) × (f ≡ true)
tests_in true true true true true true h = (refl, refl, refl, refl)
tests_in true true true true true false h = absurd (cc)
tests_in true true true true false f h = absurd (cc)
tests_in true true true false e f h = absurd (cc)
tests_in true true false d e f h = absurd (cc)
tests_in true false c d e f h = absurd (cc)
tests_in false b c d e f h = absurd (cc)

child_number : (c : ℕ) → nat_le 1 c ≡ true → nat_le c 16 ≡ true → is_number c 16 ≡ true
child_number c low high = grind (arith, nat_tests)

pub told_taken : (e : HallEvent) → IsTold e → refusal_of 1 e ≡ None
told_taken (hall.Tick m) t = ap (λ (b : Bool). if b then None else Some MomentTooLarge) t.within
told_taken (hall.Child s c m w) t =
    let h = tests_in (nat_le 1 s) (nat_le s 64) (nat_le 1 c) (nat_le c 16) (nat_le m 9000000000000000) (nat_le (logged_len w) 4096) t.within in
    let len : nat_le (piece_len w) 4096 ≡ true = ap (λ (n : ℕ). nat_le n 4096) (same_len w) ∙ h.3 in
    rw (t.first, child_number c h.0 h.1, h.2, len)
