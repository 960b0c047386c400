-- Typescripts, entry by entry.
use Rattle.std.proofs.Common.{◌≡◌, ℕ, ◌+◌, ◌<◌, ◌≤◌, List, [], ◌∷◌, ◌++◌, length, take, drop, get_or, Bool, true, false, refl, sym, ap, subst, ◌∙◌, arith, append_assoc, append-nil}
use Rattle.std.specs.Prelude.{◌/◌, ◌==◌, nat_le, IfOk, Result, Ok, Err, if◌then◌else◌, codes}
use Rattle.std.specs.Str.{bytes_eq}
use Rattle.std.proofs.lemmas.Bool.Decides.{nat_tests}
use Rattle.std.proofs.lemmas.List.{drop_more, drop_all, take_more, take_all}
use Rattle.child_events.specs.declared.event.What.TheVariants as what
use Rattle.child_events.specs.Reading.{number_of}
use Rattle.tcl_words.specs.Bytes.{newline}
use Rattle.child_timeline.specs.declared.typescript.Tape.{Tape}
use Rattle.child_timeline.specs.declared.fault.TimelineFault.{TimelineFault}
use Rattle.child_timeline.specs.declared.fault.TimelineFault.TheVariants as fault
use Rattle.child_timeline.specs.declared.line.When.TheVariants.{At, After}
use Rattle.child_timeline.specs.declared.line.TimelineLine.TheVariants as line
use Rattle.child_timeline.specs.declared.timeline.Timeline.{Timeline}
use Rattle.child_timeline.specs.Line.{Reads, ◌>>=◌, or_fault, status_of}
use Rattle.child_timeline.specs.Words.{after_blanks, first_word, behind_word}
use Rattle.child_timeline.specs.Timeline.{with_line}
use Rattle.child_timeline.specs.Told.{AreTold}
use Rattle.child_timeline.specs.Seconds.{micros_of}
use Rattle.child_timeline.specs.Cast.{within}
use Rattle.child_timeline.specs.Typescript.{behind_line, is_end, before_end, is_empty, kind_of, behind_kind, Said, output, header, said_by, played, with_entry, with_timing, with_timings, with_rest, wound_up, unwound}
use Rattle.child_timeline.proofs.Telling.{ok_is, no_ok, either, both, IsLine, IsKept, line_kept}
use Rattle.child_timeline.proofs.Casts.{within_is}

pub line_more : (bs : List ℕ) (i : ℕ) → i < length bs → (get_or bs i 0 == newline) ≡ false → behind_line (drop i bs) ≡ behind_line (drop (i + 1) bs)
line_more bs i lt h = ap behind_line (drop_more bs i 0 lt) ∙ ap (λ (t : Bool). if t then drop (i + 1) bs else behind_line (drop (i + 1) bs)) h

pub line_end : (bs : List ℕ) (i : ℕ) → i < length bs → (get_or bs i 0 == newline) ≡ true → behind_line (drop i bs) ≡ drop (i + 1) bs
line_end bs i lt h = ap behind_line (drop_more bs i 0 lt) ∙ ap (λ (t : Bool). if t then drop (i + 1) bs else behind_line (drop (i + 1) bs)) h

pub line_alone : (bs : List ℕ) (i : ℕ) → length bs ≤ i → behind_line (drop i bs) ≡ []
line_alone bs i le = ap behind_line (drop_all i bs le)

-- up to here the end was not found
abbrev pub IsShownTo : List ℕ → ℕ → Type 0
IsShownTo bs i = before_end bs ≡ take i bs ++ before_end (drop i bs)

pub shown_more : (bs : List ℕ) (i : ℕ) → i < length bs → is_end (drop i bs) ≡ false → IsShownTo bs i → IsShownTo bs (i + 1)
shown_more bs i lt h w =
    w
    ∙ ap (λ (r : List ℕ). take i bs ++ before_end r) (drop_more bs i 0 lt)
    ∙ ap (λ (t : Bool). take i bs ++ (if t then [] else get_or bs i 0 ∷ before_end (drop (i + 1) bs))) (ap is_end (sym (drop_more bs i 0 lt)) ∙ h)
    ∙ sym (append_assoc (take i bs) (get_or bs i 0 ∷ []) (before_end (drop (i + 1) bs)))
    ∙ ap (λ (r : List ℕ). r ++ before_end (drop (i + 1) bs)) (sym (take_more bs i 0 lt))

pub shown_end : (bs : List ℕ) (i : ℕ) → i < length bs → is_end (drop i bs) ≡ true → IsShownTo bs i → take i bs ≡ before_end bs
shown_end bs i lt h w =
    sym (
    w
    ∙ ap (λ (r : List ℕ). take i bs ++ before_end r) (drop_more bs i 0 lt)
    ∙ ap (λ (t : Bool). take i bs ++ (if t then [] else get_or bs i 0 ∷ before_end (drop (i + 1) bs))) (ap is_end (sym (drop_more bs i 0 lt)) ∙ h)
    ∙ append-nil (take i bs)
    )

pub shown_all : (bs : List ℕ) (i : ℕ) → length bs ≤ i → IsShownTo bs i → bs ≡ before_end bs
shown_all bs i le w = sym (w ∙ ap (λ (r : List ℕ). take i bs ++ before_end r) (drop_all i bs le) ∙ append-nil (take i bs) ∙ take_all i bs le)

-- what holds of a tape
pub record IsWound (body : List ℕ) (p : Tape) : Type 0 where
  pub kept : IsKept p.timeline
  pub early : p.clock ≤ 9000000000000000
  pub at : p.at ≤ length body

abbrev IsSaid : List ℕ → Said → Type 0
IsSaid body s = IsLine s.0 × (s.1 ≤ length body)

output_is : (n clock : ℕ) (body : List ℕ) (at count : ℕ) (s : Said) → output n clock body at count ≡ Ok s → IsSaid body s
output_is n clock body at count s h = by_test (nat_le (at + count) (length body)) refl h
  where
    by_test : (t : Bool) → nat_le (at + count) (length body) ≡ t → ◌≡◌ {A = Result Said TimelineFault} (if t then Ok (line.Child (At (clock / 1000)) 1 (what.Out (take count (drop at body))), at + count) else Err (fault.Event n)) (Ok s) → IsSaid body s
    by_test true e g =
        let short : at + count ≤ length body = grind (arith, nat_tests) in
        subst (IsSaid body) (ok_is (line.Child (At (clock / 1000)) 1 (what.Out (take count (drop at body))), at + count) s g) ((refl, refl), short)
    by_test false e g = absurd (no_ok (fault.Event n) s g)

header_is : (n : ℕ) (body : List ℕ) (at : ℕ) (words : List ℕ) (s : Said) → header n at words ≡ Ok s → at ≤ length body → IsSaid body s
header_is n body at words s h within =
    either (bytes_eq (first_word words) (codes "EXIT_CODE")) (status_of n (first_word (behind_word words)) >>= λ a. Ok (line.Exit (record { child = 1; answer = a }), at)) (Ok (line.Nothing, at)) s h
    (λ g. both (status_of n (first_word (behind_word words))) (λ a. Ok (line.Exit (record { child = 1; answer = a }), at)) s g (λ a is f. subst (IsSaid body) (ok_is (line.Exit (record { child = 1; answer = a }), at) s f) (tt, within)))
    (λ g. subst (IsSaid body) (ok_is (line.Nothing, at) s g) (tt, within))

said_is : (n clock : ℕ) (body : List ℕ) (at : ℕ) (kind words : List ℕ) (s : Said) → said_by n clock body at kind words ≡ Ok s → at ≤ length body → IsSaid body s
said_is n clock body at kind words s h within =
    either (bytes_eq kind (codes "O")) (or_fault (fault.Event n) (number_of (first_word words)) >>= output n clock body at) (if bytes_eq kind (codes "H") then header n at words else Ok (line.Nothing, at)) s h
    (λ g. both (or_fault (fault.Event n) (number_of (first_word words))) (output n clock body at) s g (λ count is f. output_is n clock body at count s f))
    (λ g.
    either (bytes_eq kind (codes "H")) (header n at words) (Ok (line.Nothing, at)) s g
    (λ f. header_is n body at words s f within)
    (λ f. subst (IsSaid body) (ok_is (line.Nothing, at) s f) (tt, within)))

played_wound : (n : ℕ) (body : List ℕ) (t : Timeline) (clock : ℕ) (s : Said) (q : Tape) → played n t clock s ≡ Ok q → IsSaid body s → clock ≤ 9000000000000000 → IsKept t → IsWound body q
played_wound n body t clock s q h is early k =
    both (with_line n t s.0) (λ u. Ok (record { timeline = u; clock = clock; at = s.1 })) q h
    (λ u made g. subst (IsWound body) (ok_is (record { timeline = u; clock = clock; at = s.1 }) q g) (record { kept = line_kept n t u s.0 is.0 made k; early = early; at = is.1 }))

entry_wound : (n : ℕ) (body : List ℕ) (p q : Tape) (t : List ℕ) → with_entry n body p t ≡ Ok q → IsWound body p → IsWound body q
entry_wound n body p q t h w =
    both (or_fault (fault.Moment n) (micros_of (first_word (behind_kind t)))) (λ time. within n (p.clock + time) >>= λ clock. said_by n clock body p.at (kind_of t) (behind_word (behind_kind t)) >>= played n p.timeline clock) q h
    (λ time read g.
    both (within n (p.clock + time)) (λ clock. said_by n clock body p.at (kind_of t) (behind_word (behind_kind t)) >>= played n p.timeline clock) q g
    (λ clock came f.
    both (said_by n clock body p.at (kind_of t) (behind_word (behind_kind t))) (played n p.timeline clock) q f
    (λ s said e. played_wound n body p.timeline clock s q e (said_is n clock body p.at (kind_of t) (behind_word (behind_kind t)) s said w.at) (within_is n (p.clock + time) clock came) w.kept)))

pub timing_wound : (n : ℕ) (body : List ℕ) (p q : Tape) (bytes : List ℕ) → with_timing n body p bytes ≡ Ok q → IsWound body p → IsWound body q
timing_wound n body p q bytes h w =
    either (is_empty (after_blanks bytes)) (Ok p) (with_entry n body p (after_blanks bytes)) q h
    (λ g. subst (IsWound body) (ok_is p q g) w)
    (λ g. entry_wound n body p q (after_blanks bytes) g w)

-- the loop

pub one_timing : (n : ℕ) (body : List ℕ) (p q : Tape) (w : List ℕ) (ws : List (List ℕ)) → with_timing n body p w ≡ Ok q → with_timings n body p (w ∷ ws) ≡ with_timings (n + 1) body q ws
one_timing n body p q w ws h = ap (λ (e : Result Tape TimelineFault). e >>= λ x. with_timings (n + 1) body x ws) h

pub unwound_is : (body : List ℕ) → IsWound body unwound
unwound_is body = record { kept = record { told = tt; early = omega arith }; early = omega arith; at = omega arith }

pub rest_kept : (t u : Timeline) (rest : List ℕ) → with_rest t rest ≡ Ok u → IsKept t → IsKept u
rest_kept t u rest h k =
    either (is_empty rest) (Ok t) (with_line 1 t (line.Child (After 0) 1 (what.Out rest))) u h
    (λ g. subst IsKept (ok_is t u g) k)
    (λ g. line_kept 1 t u (line.Child (After 0) 1 (what.Out rest)) (refl, refl) g k)

pub told_wound_up : (body : List ℕ) (p : Tape) (x : Result Timeline TimelineFault) → Reads x (wound_up body p) → IsKept p.timeline → IfOk x (λ u. AreTold u.events)
told_wound_up body p (Ok u) h k =
    (both (with_rest p.timeline (drop p.at body)) (λ t. with_line 1 t (line.Child (After 0) 1 what.Eof)) u h
    (λ t made g. line_kept 1 t u (line.Child (After 0) 1 what.Eof) (refl, refl) g (rest_kept p.timeline t (drop p.at body) made k))).told
told_wound_up body p (Err f) h k = tt
