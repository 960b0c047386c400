-- Casts, event by event.
use Rattle.std.proofs.Common.{◌≡◌, ℕ, ◌+◌, ◌≤◌, List, [], ◌∷◌, Bool, true, false, Option, Some, None, refl, sym, ap, subst, ◌∙◌, arith}
use Rattle.std.specs.Prelude.{◌/◌, nat_le, IfOk, Result, Ok, Err, if◌then◌else◌, option_and_then, codes}
use Rattle.std.specs.Str.{IsUtf8, is_utf8, bytes_eq}
use Rattle.std.proofs.lemmas.Bool.Decides.{nat_tests}
use Rattle.std.proofs.lemmas.Str.{IsUtf8-from_is_utf8, is_utf8-from_IsUtf8}
use Rattle.json.specs.Json.{Json, document}
use Rattle.child_events.specs.declared.event.What.TheVariants as what
use Rattle.child_timeline.specs.declared.cast.Reel.{Reel}
use Rattle.child_timeline.specs.declared.fault.TimelineFault.{TimelineFault}
use Rattle.child_timeline.specs.declared.fault.TimelineFault.TheVariants as fault
use Rattle.child_timeline.specs.declared.line.When.TheVariants.{At, After}
use Rattle.child_timeline.specs.declared.line.TimelineLine.{TimelineLine}
use Rattle.child_timeline.specs.declared.line.TimelineLine.TheVariants as line
use Rattle.child_timeline.specs.declared.timeline.Timeline.{Timeline}
use Rattle.child_timeline.specs.Line.{Reads, ◌>>=◌, or_fault, status_of, says_nothing}
use Rattle.child_timeline.specs.Timeline.{with_line}
use Rattle.child_timeline.specs.Told.{AreTold}
use Rattle.child_timeline.specs.Seconds.{micros_of}
use Rattle.child_timeline.specs.Cast.{value_of, Scene, scene_in, within, clock_after, line_of_scene, at_clock, with_scene, with_event, with_all, closed}
use Rattle.child_timeline.proofs.Telling.{ok_is, no_ok, either, both, IsLine, IsKept, line_kept}

pub is_value : (bytes : List ℕ) (j : Json) → IsUtf8 bytes → document bytes ≡ Some j → Some j ≡ value_of bytes
is_value bytes j utf8 is = sym (ap (λ (t : Bool). if t then document bytes else None) (is_utf8-from_IsUtf8 bytes utf8) ∙ is)

pub is_none : (bytes : List ℕ) → (IsUtf8 bytes → document bytes ≡ None) → None ≡ value_of bytes
is_none bytes refused = by_test (is_utf8 bytes) refl
  where
    by_test : (t : Bool) → is_utf8 bytes ≡ t → ◌≡◌ {A = Option Json} None (if t then document bytes else None)
    by_test true is = sym (refused (IsUtf8-from_is_utf8 bytes is))
    by_test false is = refl

-- what holds of a timeline and its clock
pub record IsPlayed (r : Reel) : Type 0 where
  pub kept : IsKept r.timeline
  pub early : r.clock ≤ 9000000000000000

abbrev Early : ℕ → Type 0
Early clock = clock ≤ 9000000000000000

pub within_is : (n clock k : ℕ) → within n clock ≡ Ok k → Early k
within_is n clock k h = by_test (nat_le clock 9000000000000000) refl h
  where
    by_test : (t : Bool) → nat_le clock 9000000000000000 ≡ t → ◌≡◌ {A = Result ℕ TimelineFault} (if t then Ok clock else Err (fault.Moment n)) (Ok k) → Early k
    by_test true e g = let small : Early clock = grind (arith, nat_tests) in subst Early (ok_is clock k g) small
    by_test false e g = absurd (no_ok (fault.Moment n) k g)

clock_is : (n : ℕ) (on : Bool) (last time k : ℕ) → clock_after n on last time ≡ Ok k → Early k
clock_is n true last time k h = within_is n (last + time) k h
clock_is n false last time k h =
    either (nat_le last time) (within n time) (Err (fault.Back n)) k h
    (λ g. within_is n time k g)
    (λ g. absurd (no_ok (fault.Back n) k g))

scene_is : (n clock : ℕ) (code text : List ℕ) (l : TimelineLine) → line_of_scene n clock code text ≡ Ok l → IsLine l
scene_is n clock code text l h =
    either (bytes_eq code (codes "o")) (Ok (line.Child (At (clock / 1000)) 1 (what.Out text))) (if bytes_eq code (codes "x") then (status_of n text >>= λ a. Ok (line.Exit (record { child = 1; answer = a }))) else Ok line.Nothing) l h
    (λ g. subst IsLine (ok_is (line.Child (At (clock / 1000)) 1 (what.Out text)) l g) (refl, refl))
    (λ g.
    either (bytes_eq code (codes "x")) (status_of n text >>= λ a. Ok (line.Exit (record { child = 1; answer = a }))) (Ok line.Nothing) l g
    (λ f. both (status_of n text) (λ a. Ok (line.Exit (record { child = 1; answer = a }))) l f (λ a is e. subst IsLine (ok_is (line.Exit (record { child = 1; answer = a })) l e) tt))
    (λ f. subst IsLine (ok_is line.Nothing l f) tt))

clock_played : (n : ℕ) (t : Timeline) (clock : ℕ) (l : TimelineLine) (q : Reel) → at_clock n t clock l ≡ Ok q → IsLine l → Early clock → IsKept t → IsPlayed q
clock_played n t clock l q h is early k =
    both (with_line n t l) (λ u. Ok (record { timeline = u; clock = clock })) q h
    (λ u made g. subst IsPlayed (ok_is (record { timeline = u; clock = clock }) q g) (record { kept = line_kept n t u l is made k; early = early }))

scene_played : (n : ℕ) (on : Bool) (r q : Reel) (s : Scene) → with_scene n on r s ≡ Ok q → IsPlayed r → IsPlayed q
scene_played n on r q s h p =
    both (or_fault (fault.Moment n) (micros_of s.0)) (λ time. clock_after n on r.clock time >>= λ clock. line_of_scene n clock s.1.0 s.1.1 >>= at_clock n r.timeline clock) q h
    (λ time read g.
    both (clock_after n on r.clock time) (λ clock. line_of_scene n clock s.1.0 s.1.1 >>= at_clock n r.timeline clock) q g
    (λ clock came f.
    both (line_of_scene n clock s.1.0 s.1.1) (at_clock n r.timeline clock) q f
    (λ l said e. clock_played n r.timeline clock l q e (scene_is n clock s.1.0 s.1.1 l said) (clock_is n on r.clock time clock came) p.kept)))

pub event_played : (n : ℕ) (on : Bool) (r q : Reel) (bytes : List ℕ) → with_event n on r bytes ≡ Ok q → IsPlayed r → IsPlayed q
event_played n on r q bytes h p =
    either (says_nothing bytes) (Ok r) (or_fault (fault.Event n) (option_and_then scene_in (value_of bytes)) >>= with_scene n on r) q h
    (λ g. subst IsPlayed (ok_is r q g) p)
    (λ g.
    both (or_fault (fault.Event n) (option_and_then scene_in (value_of bytes))) (with_scene n on r) q g
    (λ s is f. scene_played n on r q s f p))

-- the loop

pub one_event : (n : ℕ) (on : Bool) (r q : Reel) (w : List ℕ) (ws : List (List ℕ)) → with_event n on r w ≡ Ok q → with_all n on r (w ∷ ws) ≡ with_all (n + 1) on q ws
one_event n on r q w ws h = ap (λ (e : Result Reel TimelineFault). e >>= λ x. with_all (n + 1) on x ws) h

pub bad_event : (n : ℕ) (on : Bool) (r : Reel) (f : TimelineFault) (w : List ℕ) (ws : List (List ℕ)) → with_event n on r w ≡ Err f → with_all n on r (w ∷ ws) ≡ Err f
bad_event n on r f w ws h = ap (λ (e : Result Reel TimelineFault). e >>= λ x. with_all (n + 1) on x ws) h

-- the last event
pub last_event : (n : ℕ) (on : Bool) (r : Reel) (w : List ℕ) → with_all n on r (w ∷ []) ≡ with_event n on r w
last_event n on r w = same (with_event n on r w)
  where
    same : (e : Result Reel TimelineFault) → (e >>= λ x. Ok x) ≡ e
    same (Ok x) = refl
    same (Err f) = refl

pub told_closed : (r : Reel) (x : Result Timeline TimelineFault) → Reads x (closed r) → IsPlayed r → IfOk x (λ u. AreTold u.events)
told_closed r (Ok u) h p = (line_kept 1 r.timeline u (line.Child (After 0) 1 what.Eof) (refl, refl) h p.kept).told
told_closed r (Err f) h p = tt
