-- Entries that a hall of so many scripts takes.
use Rattle.std.proofs.Common.{◌≡◌, ℕ, suc, ◌+◌, ◌-◌, ◌*◌, ◌≤◌, ◌<◌, List, [], ◌∷◌, length, map, Bool, true, false, ◌&&◌, Option, None, Some, refl, sym, ap, subst, ◌∙◌, arith}
use Rattle.std.specs.Prelude.{slice_get, nat_lt, nat_le, if◌then◌else◌}
use Rattle.std.specs.List.{AllByRecursion}
use Rattle.std.proofs.lemmas.Bool.Decides.{nat_tests}
use Rattle.std.proofs.lemmas.Option.{slice_get_within}
use Rattle.child_events.specs.declared.event.Answer.{Answer}
use Rattle.child_events.specs.declared.event.What.{What}
use Rattle.child_events.specs.declared.event.HallEvent.{HallEvent}
use Rattle.child_events.specs.declared.event.HallEvent.TheVariants as hall
use Rattle.expect_core.specs.declared.request.Request.{Request}
use Rattle.dialogue_sched.specs.declared.script.Script.{Script}
use Rattle.dialogue_sched.specs.declared.refusal.HallRefusal.{HallRefusal}
use Rattle.dialogue_sched.specs.declared.refusal.HallRefusal.TheVariants.{NoSuchScript, NoSuchChild, MomentTooLarge, PieceTooLong}
use Rattle.dialogue_sched.specs.Refusal.{refusal_of, refused_or, first_refusal, piece_len as taken_len}
use Rattle.child_desk.specs.Book.{AllTaken}
use Rattle.child_desk.specs.Line.{Keeping}
use Rattle.child_desk.specs.Book.{ring_log}
use Rattle.child_serve.specs.declared.served.WorkerResult.{WorkerResult}
use Rattle.run_records.specs.Joined.{script_of, numbered, AllFits, IsJoined}
use Rattle.child_serve.specs.Served.{IsPart, AreParts, records_of}
use Rattle.run_records.proofs.Merging.{EachFrom, joined_each}
use Rattle.child_serve.proofs.Wholes.{there, map_length}

lt_said : (a b : ℕ) → nat_lt a b ≡ true → a < b
lt_said a b h = grind (arith, nat_tests)

le_said : (a b : ℕ) → nat_le a b ≡ true → a ≤ b
le_said a b h = grind (arith, nat_tests)

pub le_true : (a b : ℕ) → a ≤ b → nat_le a b ≡ true
le_true a b h = grind (arith, nat_tests)

pub record Limits (scripts s c m : ℕ) (w : What) : Type 0 where
  pub script_low : 1 ≤ s
  pub script_high : s ≤ scripts
  pub child_low : 1 ≤ c
  pub child_high : c ≤ 16
  pub moment_high : m ≤ 9000000000000000
  pub few : taken_len w ≤ 4096

pub limits : (scripts s c m : ℕ) (w : What) → refusal_of scripts (hall.Child s c m w) ≡ None → Limits scripts s c m w
limits scripts s c m w h =
    by_tests (nat_lt 0 s) (nat_le s scripts) (nat_lt 0 c) (nat_le c 16) (nat_le m 9000000000000000) (nat_le (taken_len w) 4096) refl refl refl refl refl refl h
  where
    by_tests : (p q r t u v : Bool) → nat_lt 0 s ≡ p → nat_le s scripts ≡ q → nat_lt 0 c ≡ r → nat_le c 16 ≡ t → nat_le m 9000000000000000 ≡ u → nat_le (taken_len w) 4096 ≡ v →
        ◌≡◌ {A = Option HallRefusal} (if p && q then (if r && t then (if u then (if v then None else Some PieceTooLong) else Some MomentTooLarge) else Some NoSuchChild) else Some NoSuchScript) None → Limits scripts s c m w
    by_tests true true true true true true hp hq hr ht hu hv h = record {
      script_low = let lt = lt_said 0 s hp in omega (arith, lt);
      script_high = le_said s scripts hq;
      child_low = let lt = lt_said 0 c hr in omega (arith, lt);
      child_high = le_said c 16 ht;
      moment_high = le_said m 9000000000000000 hu;
      few = le_said (taken_len w) 4096 hv;
    }
    by_tests true true true true true false hp hq hr ht hu hv h = absurd (cc)
    by_tests true true true true false v hp hq hr ht hu hv h = absurd (cc)
    by_tests true true true false u v hp hq hr ht hu hv h = absurd (cc)
    by_tests true true false t u v hp hq hr ht hu hv h = absurd (cc)
    by_tests true false r t u v hp hq hr ht hu hv h = absurd (cc)
    by_tests false q r t u v hp hq hr ht hu hv h = absurd (cc)

six_taken : (p q r t u v : Bool) → p ≡ true → q ≡ true → r ≡ true → t ≡ true → u ≡ true → v ≡ true →
    ◌≡◌ {A = Option HallRefusal} (if p && q then (if r && t then (if u then (if v then None else Some PieceTooLong) else Some MomentTooLarge) else Some NoSuchChild) else Some NoSuchScript) None
six_taken true true true true true true hp hq hr ht hu hv = refl
six_taken true true true true true false hp hq hr ht hu hv = absurd (cc)
six_taken true true true true false v hp hq hr ht hu hv = absurd (cc)
six_taken true true true false u v hp hq hr ht hu hv = absurd (cc)
six_taken true true false t u v hp hq hr ht hu hv = absurd (cc)
six_taken true false r t u v hp hq hr ht hu hv = absurd (cc)
six_taken false q r t u v hp hq hr ht hu hv = absurd (cc)

lt_true : (a b : ℕ) → a < b → nat_lt a b ≡ true
lt_true a b h = grind (arith, nat_tests)

-- under the number of another script, too
taken_as : (few all n s c m : ℕ) (w : What) → Limits few s c m w → 1 ≤ n → n ≤ all → refusal_of all (hall.Child n c m w) ≡ None
taken_as few all n s c m w l low high =
    six_taken (nat_lt 0 n) (nat_le n all) (nat_lt 0 c) (nat_le c 16) (nat_le m 9000000000000000) (nat_le (taken_len w) 4096)
    (lt_true 0 n (omega (arith, low))) (le_true n all high) (lt_true 0 c (let h = l.child_low in omega (arith, h))) (le_true c 16 l.child_high) (le_true m 9000000000000000 l.moment_high)
    (le_true (taken_len w) 4096 l.few)

-- each entry is taken
abbrev pub AllAccepted : ℕ → List HallEvent → Type 0
AllAccepted scripts es = AllByRecursion (λ e. refusal_of scripts e ≡ None) es

pub taken_accepted : (scripts last : ℕ) (es : List HallEvent) → AllTaken scripts last es → AllAccepted scripts es
taken_accepted scripts last [] t = tt
taken_accepted scripts last (e ∷ es) t = (t.0.0, taken_accepted scripts last es t.1)

pub accepted_none : (scripts at : ℕ) (es : List HallEvent) → AllAccepted scripts es → first_refusal scripts at es ≡ None
accepted_none scripts at [] a = refl
accepted_none scripts at (e ∷ es) a = ap (λ (o : Option HallRefusal). refused_or at o (first_refusal scripts (at + 1) es)) a.0 ∙ accepted_none scripts (at + 1) es a.1

none_accepted : (scripts at : ℕ) (es : List HallEvent) → first_refusal scripts at es ≡ None → AllAccepted scripts es
none_accepted scripts at [] h = tt
none_accepted scripts at (e ∷ es) h = tested (refusal_of scripts e) refl h (none_accepted scripts (at + 1) es)
  where
    tested : (o : Option HallRefusal) → refusal_of scripts e ≡ o → refused_or at o (first_refusal scripts (at + 1) es) ≡ None → (first_refusal scripts (at + 1) es ≡ None → AllAccepted scripts es) → AllAccepted scripts (e ∷ es)
    tested None is rest more = (is, more rest)
    tested (Some r) is rest more = absurd (no_refusal r rest)
      where
        no_refusal : (r : HallRefusal) → ◌≡◌ {A = Option (ℕ × HallRefusal)} (Some (at, r)) None → ⊥
        no_refusal r h = cc

module _ (told : ℕ → ℕ → Request → Answer → Type 0) (gives : ℕ → ℕ → Option (List ℕ) → Type 0) (keepers : List Keeping) (scripts : List Script) where
  module _ (n w : ℕ) (s : WorkerResult) (part : IsPart told gives n w keepers scripts s) where
    -- a script that the worker has is one of all
    within : (number : ℕ) → 1 ≤ number → number ≤ length part.few → script_of n w number ≤ length scripts
    within number low high =
        let x = there part.few (number - 1) (omega (arith, low, high)) in
        let lt = slice_get_within scripts ((number - 1) * n + w) x.0 (sym (part.dealt (number - 1)) ∙ x.1) in
        omega (arith, lt)

    numbered_taken : (es : List HallEvent) → AllAccepted (length part.few) es → AllAccepted (length scripts) (map (numbered n w) es)
    numbered_taken [] a = tt
    numbered_taken (hall.Child number c m x ∷ es) a =
        let l = limits (length part.few) number c m x a.0 in
        (taken_as (length part.few) (length scripts) (script_of n w number) number c m x l (let low : 1 ≤ (number - 1) * n + w + 1 = omega arith in low) (within number l.script_low l.script_high), numbered_taken es a.1)
    numbered_taken (hall.Tick m ∷ es) a = (a.0, numbered_taken es a.1)

    part_taken : AllAccepted (length scripts) (map (numbered n w) (ring_log s.log))
    part_taken = numbered_taken (ring_log s.log) (none_accepted (length part.few) 0 (ring_log s.log) part.taken)

  parts_taken : (n w : ℕ) (parts : List WorkerResult) → ((i : ℕ) (s : WorkerResult) → slice_get parts i ≡ Some s → IsPart told gives n (w + i) keepers scripts s) →
      EachFrom (λ e. refusal_of (length scripts) e ≡ None) n w (records_of parts)
  parts_taken n w [] are = tt
  parts_taken n w (p ∷ parts) are = (
    part_taken n w p (subst (λ (v : ℕ). IsPart told gives n v keepers scripts p) (let e : w + 0 ≡ w = omega arith in e) (are 0 p refl)),
    parts_taken n (w + 1) parts (λ i s got. subst (λ (v : ℕ). IsPart told gives n v keepers scripts s) (let e : w + suc i ≡ w + 1 + i = omega arith in e) (are (suc i) s got)),
  )

  -- of the joined record a run of all scripts refuses nothing
  pub whole_taken : (parts : List WorkerResult) (es : List HallEvent) → AllFits (records_of parts) → IsJoined (records_of parts) es → AreParts told gives keepers scripts parts → first_refusal (length scripts) 0 es ≡ None
  whole_taken parts es fits joined are =
      accepted_none (length scripts) 0 es
      (joined_each (records_of parts) es fits joined (λ e. refusal_of (length scripts) e ≡ None)
      (subst (λ (n : ℕ). EachFrom (λ e. refusal_of (length scripts) e ≡ None) n 0 (records_of parts)) (sym (map_length (λ (s : WorkerResult). ring_log s.log) parts))
      (parts_taken (length parts) 0 parts (λ i s got. subst (λ (v : ℕ). IsPart told gives (length parts) v keepers scripts s) (let e : i ≡ 0 + i = omega arith in e) (are i s got)))))
