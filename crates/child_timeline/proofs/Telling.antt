-- Timelines, line by line.
use Rattle.std.proofs.Common.{◌≡◌, ℕ, zero, suc, ◌+◌, ◌-◌, ◌/◌, ◌*◌, ◌≤◌, List, [], ◌∷◌, ◌++◌, length, take, drop, Bool, true, false, Option, Some, None, refl, sym, ap, subst, ◌∙◌, arith, length-drop, length-take}
use Rattle.std.specs.Prelude.{map, nat_le, IsTrue, IfOk, Result, Ok, Err, if◌then◌else◌, ◌&&◌, is_some}
use Rattle.std.specs.Str.{bytes_eq}
use Rattle.std.specs.Prelude.{codes, ◌==◌}
use Rattle.std.proofs.lemmas.Bool.Decides.{nat_tests}
use Rattle.child_events.specs.declared.event.What.{What}
use Rattle.child_events.specs.declared.event.What.TheVariants as what
use Rattle.child_events.specs.declared.event.HallEvent.{HallEvent}
use Rattle.child_events.specs.declared.event.HallEvent.TheVariants as hall
use Rattle.child_events.specs.Log.{piece_len}
use Rattle.child_events.specs.Reading.{number_of, cause_of}
use Rattle.child_timeline.specs.declared.exits.Exit.{Exit}
use Rattle.child_timeline.specs.declared.fault.TimelineFault.{TimelineFault}
use Rattle.child_timeline.specs.declared.fault.TimelineFault.TheVariants as fault
use Rattle.child_timeline.specs.declared.quoted.QuoteState.TheVariants.{Plain}
use Rattle.child_timeline.specs.declared.line.When.{When}
use Rattle.child_timeline.specs.declared.line.When.TheVariants.{At, After}
use Rattle.child_timeline.specs.declared.line.TimelineLine.{TimelineLine}
use Rattle.child_timeline.specs.declared.line.TimelineLine.TheVariants as line
use Rattle.child_timeline.specs.declared.timeline.Timeline.{Timeline}
use Rattle.tcl_words.specs.Bytes.{quote}
use Rattle.child_timeline.specs.Words.{after_blanks, first_word, behind_word}
use Rattle.child_timeline.specs.Quoted.{text_from}
use Rattle.child_timeline.specs.Exits.{exit_told}
use Rattle.child_timeline.specs.Line.{Reads, ◌>>=◌, or_fault, alone, when_of, is_child, child_number, child_in, behind_child, status_of, text_of, ending_of, what_of, child_line, event_line, moment_line, exit_line, exit_of_child, is_of_exit, says_nothing, words_line, line_of}
use Rattle.child_timeline.specs.Timeline.{within, moment_after, pieces_and_rest, written, events_of, with_events, with_exit, with_line, with_bytes, with_lines}
use Rattle.child_timeline.specs.Told.{brings_answer, IsTold, AreTold}

-- results

pub ok_is : {A : Type 0} (x y : A) → ◌≡◌ {A = Result A TimelineFault} (Ok x) (Ok y) → x ≡ y
ok_is x y h = cc

pub no_ok : {A : Type 0} (f : TimelineFault) (y : A) → ◌≡◌ {A = Result A TimelineFault} (Err f) (Ok y) → ⊥
no_ok f y h = cc

-- one of two
pub either : {A P : Type 0} (t : Bool) (a b : Result A TimelineFault) (x : A) → (if t then a else b) ≡ Ok x → (a ≡ Ok x → P) → (b ≡ Ok x → P) → P
either true a b x h one other = one h
either false a b x h one other = other h

-- one and then the other
pub both : {A B P : Type 0} (r : Result A TimelineFault) (f : A → Result B TimelineFault) (x : B) → (r >>= f) ≡ Ok x → ((a : A) → r ≡ Ok a → f a ≡ Ok x → P) → P
both (Ok a) f x h go = go a refl h
both (Err e) f x h go = absurd (no_ok e x h)

alone_is : {A : Type 0} (n : ℕ) (x y : A) (t : List ℕ) → alone n x t ≡ Ok y → x ≡ y
alone_is n x y [] h = ok_is x y h
alone_is n x y (b ∷ bs) h = absurd (no_ok (fault.Shape n) y h)

-- a line's child is one, and it brings no answer
abbrev pub IsLine : TimelineLine → Type 0
IsLine line.Nothing = Unit {0}
IsLine (line.Tick at) = Unit {0}
IsLine (line.Child at c w) = (is_child c ≡ true) × (brings_answer w ≡ false)
IsLine (line.Exit e) = Unit {0}

child_number_is : (n : ℕ) (o : Option ℕ) (c : ℕ) → child_number n o ≡ Ok c → is_child c ≡ true
child_number_is n None c h = absurd (no_ok (fault.Child n) c h)
child_number_is n (Some k) c h = by_test (is_child k) refl h
  where
    by_test : (t : Bool) → is_child k ≡ t → ◌≡◌ {A = Result ℕ TimelineFault} (if t then Ok k else Err (fault.Child n)) (Ok c) → is_child c ≡ true
    by_test true e g = ap is_child (sym (ok_is k c g)) ∙ e
    by_test false e g = absurd (no_ok (fault.Child n) c g)

child_in_is : (n : ℕ) (t : List ℕ) (c : ℕ) → child_in n t ≡ Ok c → is_child c ≡ true
child_in_is n t c h =
    either (bytes_eq (first_word t) (codes "child")) (child_number n (number_of (first_word (behind_word t)))) (Ok 1) c h
    (λ g. child_number_is n (number_of (first_word (behind_word t))) c g)
    (λ g. ap is_child (sym (ok_is 1 c g)))

text_is : (n : ℕ) (bs : List ℕ) (w : What) → text_of n bs ≡ Ok w → brings_answer w ≡ false
text_is n bs w h = both (or_fault (fault.Text n) (text_from Plain bs)) (λ t. Ok (what.Out t)) w h (λ t is g. ap brings_answer (sym (ok_is (what.Out t) w g)))

fail_is : (n : ℕ) (t : List ℕ) (w : What) → (or_fault (fault.Cause n) (cause_of (first_word t)) >>= λ c. alone n (what.ReadFail c) (behind_word t)) ≡ Ok w → brings_answer w ≡ false
fail_is n t w h = both (or_fault (fault.Cause n) (cause_of (first_word t))) (λ c. alone n (what.ReadFail c) (behind_word t)) w h (λ c is g. ap brings_answer (sym (alone_is n (what.ReadFail c) w (behind_word t) g)))

ending_is : (n : ℕ) (k t : List ℕ) (w : What) → ending_of n k t ≡ Ok w → brings_answer w ≡ false
ending_is n k t w h =
    either (bytes_eq k (codes "end")) (alone n what.Eof t) (if bytes_eq k (codes "fail") then (or_fault (fault.Cause n) (cause_of (first_word t)) >>= λ c. alone n (what.ReadFail c) (behind_word t)) else Err (fault.Shape n)) w h
    (λ g. ap brings_answer (sym (alone_is n what.Eof w t g)))
    (λ g.
    either (bytes_eq k (codes "fail")) (or_fault (fault.Cause n) (cause_of (first_word t)) >>= λ c. alone n (what.ReadFail c) (behind_word t)) (Err (fault.Shape n)) w g
    (λ f. fail_is n t w f)
    (λ f. absurd (no_ok (fault.Shape n) w f)))

what_is : (n : ℕ) (t : List ℕ) (w : What) → what_of n t ≡ Ok w → brings_answer w ≡ false
what_is n [] w h = absurd (no_ok (fault.Shape n) w h)
what_is n (b ∷ bs) w h =
    either (b == quote) (text_of n bs) (ending_of n (first_word (b ∷ bs)) (behind_word (b ∷ bs))) w h
    (λ g. text_is n bs w g)
    (λ g. ending_is n (first_word (b ∷ bs)) (behind_word (b ∷ bs)) w g)

child_line_is : (n : ℕ) (at : When) (t : List ℕ) (l : TimelineLine) → child_line n at t ≡ Ok l → IsLine l
child_line_is n at t l h =
    both (child_in n t) (λ c. what_of n (behind_child t) >>= λ w. Ok (line.Child at c w)) l h
    (λ c named g.
    both (what_of n (behind_child t)) (λ w. Ok (line.Child at c w)) l g
    (λ w brought f. subst IsLine (ok_is (line.Child at c w) l f) (child_in_is n t c named, what_is n (behind_child t) w brought)))

event_line_is : (n : ℕ) (at : When) (t : List ℕ) (l : TimelineLine) → event_line n at t ≡ Ok l → IsLine l
event_line_is n at t l h =
    either (bytes_eq (first_word t) (codes "tick")) (alone n (line.Tick at) (behind_word t)) (child_line n at t) l h
    (λ g. subst IsLine (alone_is n (line.Tick at) l (behind_word t) g) tt)
    (λ g. child_line_is n at t l g)

moment_line_is : (n : ℕ) (t : List ℕ) (l : TimelineLine) → moment_line n t ≡ Ok l → IsLine l
moment_line_is n t l h = both (or_fault (fault.Moment n) (when_of (first_word t))) (λ at. event_line n at (behind_word t)) l h (λ at is g. event_line_is n at (behind_word t) l g)

exit_of_is : (n c : ℕ) (t : List ℕ) (l : TimelineLine) → exit_of_child n c t ≡ Ok l → IsLine l
exit_of_is n c t l h =
    either (bytes_eq (first_word t) (codes "exit")) (status_of n (first_word (behind_word t)) >>= λ a. alone n (line.Exit (record { child = c; answer = a })) (behind_word (behind_word t))) (Err (fault.Shape n)) l h
    (λ g.
    both (status_of n (first_word (behind_word t))) (λ a. alone n (line.Exit (record { child = c; answer = a })) (behind_word (behind_word t))) l g
    (λ a is f. subst IsLine (alone_is n (line.Exit (record { child = c; answer = a })) l (behind_word (behind_word t)) f) tt))
    (λ g. absurd (no_ok (fault.Shape n) l g))

exit_line_is : (n : ℕ) (t : List ℕ) (l : TimelineLine) → exit_line n t ≡ Ok l → IsLine l
exit_line_is n t l h = both (child_in n t) (λ c. exit_of_child n c (behind_child t)) l h (λ c is g. exit_of_is n c (behind_child t) l g)

words_line_is : (n : ℕ) (t : List ℕ) (l : TimelineLine) → words_line n t ≡ Ok l → IsLine l
words_line_is n t l h =
    either (says_nothing t) (Ok line.Nothing) (if is_of_exit (first_word t) then exit_line n t else moment_line n t) l h
    (λ g. subst IsLine (ok_is line.Nothing l g) tt)
    (λ g.
    either (is_of_exit (first_word t)) (exit_line n t) (moment_line n t) l g
    (λ f. exit_line_is n t l f)
    (λ f. moment_line_is n t l f))

-- events

abbrev Early : ℕ → Type 0
Early m = m ≤ 9000000000000000

within_is : (n m k : ℕ) → within n m ≡ Ok k → Early k
within_is n m k h = by_test (nat_le m 9000000000000000) refl h
  where
    by_test : (t : Bool) → nat_le m 9000000000000000 ≡ t → ◌≡◌ {A = Result ℕ TimelineFault} (if t then Ok m else Err (fault.Moment n)) (Ok k) → Early k
    by_test true e g = let small : Early m = grind (arith, nat_tests) in subst Early (ok_is m k g) small
    by_test false e g = absurd (no_ok (fault.Moment n) k g)

moment_is : (n last m : ℕ) (at : When) → moment_after n last at ≡ Ok m → Early m
moment_is n last m (After k) h = within_is n (last + k) m h
moment_is n last m (At k) h =
    both (within n k) (λ j. if nat_le last j then Ok j else Err (fault.Back n)) m h
    (λ j is g.
    either (nat_le last j) (Ok j) (Err (fault.Back n)) m g
    (λ f. subst Early (ok_is j m f) (within_is n k j is))
    (λ f. absurd (no_ok (fault.Back n) m f)))

tick_told : (m : ℕ) → Early m → IsTold (hall.Tick m)
tick_told m early = record { first = tt; within = le_true m early; other = refl }
  where
    le_true : (m : ℕ) → m ≤ 9000000000000000 → nat_le m 9000000000000000 ≡ true
    le_true m h = grind (arith, nat_tests)

child_fits : (c m l : ℕ) → is_child c ≡ true → Early m → l ≤ 4096 → IsTrue (nat_le 1 1 && nat_le 1 64 && nat_le 1 c && nat_le c 16 && nat_le m 9000000000000000 && nat_le l 4096)
child_fits c m l child early short = grind (arith, nat_tests)

child_told : (c m : ℕ) (w : What) → is_child c ≡ true → Early m → piece_len w ≤ 4096 → brings_answer w ≡ false → IsTold (hall.Child 1 c m w)
child_told c m w child early short other = record { first = refl; within = child_fits c m (piece_len w) child early short; other = other }

pieces_told : (c m k : ℕ) (bytes : List ℕ) → is_child c ≡ true → Early m → length bytes ≤ 4096 * (k + 1) → AreTold (map (written c m) (pieces_and_rest k bytes))
pieces_told c m zero bytes child early short = (child_told c m (what.Out bytes) child early (omega (arith, short)) refl, tt)
pieces_told c m (suc k) bytes child early short = (
  child_told c m (what.Out (take 4096 bytes)) child early (omega (arith, length-take 4096 bytes)) refl,
  pieces_told c m k (drop 4096 bytes) child early (omega (arith, short, length-drop 4096 bytes)),
)

enough : (n : ℕ) → n ≤ 4096 * ((n - 1) / 4096 + 1)
enough n = omega arith

what_told : (c m : ℕ) (w : What) → is_child c ≡ true → Early m → brings_answer w ≡ false → AreTold (events_of c m w)
what_told c m (what.Out text) child early other = pieces_told c m ((length text - 1) / 4096) text child early (enough (length text))
what_told c m what.Eof child early other = (child_told c m what.Eof child early (omega arith) refl, tt)
what_told c m (what.ReadFail cause) child early other = (child_told c m (what.ReadFail cause) child early (omega arith) refl, tt)
what_told c m (what.Answer a) child early other = tt

told_append : (es fs : List HallEvent) → AreTold es → AreTold fs → AreTold (es ++ fs)
told_append [] fs e f = f
told_append (x ∷ es) fs e f = (e.0, told_append es fs e.1 f)

-- what holds of a timeline
pub record IsKept (t : Timeline) : Type 0 where
  pub told : AreTold t.events
  pub early : t.moment ≤ 9000000000000000

exit_kept : (n : ℕ) (t u : Timeline) (e : Exit) → with_exit n t e ≡ Ok u → IsKept t → IsKept u
exit_kept n t u e h k =
    either (is_some (exit_told e.child t.exits)) (Err (fault.Again n)) (Ok (record t { exits = t.exits ++ e ∷ [] })) u h
    (λ g. absurd (no_ok (fault.Again n) u g))
    (λ g. subst IsKept (ok_is (record t { exits = t.exits ++ e ∷ [] }) u g) (record { told = k.told; early = k.early }))

pub line_kept : (n : ℕ) (t u : Timeline) (l : TimelineLine) → IsLine l → with_line n t l ≡ Ok u → IsKept t → IsKept u
line_kept n t u line.Nothing is h k = subst IsKept (ok_is t u h) k
line_kept n t u (line.Tick at) is h k =
    both (moment_after n t.moment at) (λ m. Ok (with_events t m (hall.Tick m ∷ []))) u h
    (λ m on g. subst IsKept (ok_is (with_events t m (hall.Tick m ∷ [])) u g) (record { told = told_append t.events (hall.Tick m ∷ []) k.told (tick_told m (moment_is n t.moment m at on), tt); early = moment_is n t.moment m at on }))
line_kept n t u (line.Child at c w) is h k =
    both (moment_after n t.moment at) (λ m. Ok (with_events t m (events_of c m w))) u h
    (λ m on g. subst IsKept (ok_is (with_events t m (events_of c m w)) u g) (record { told = told_append t.events (events_of c m w) k.told (what_told c m w is.0 (moment_is n t.moment m at on) is.1); early = moment_is n t.moment m at on }))
line_kept n t u (line.Exit e) is h k = exit_kept n t u e h k

pub bytes_kept : (n : ℕ) (t u : Timeline) (bytes : List ℕ) → with_bytes n t bytes ≡ Ok u → IsKept t → IsKept u
bytes_kept n t u bytes h k = both (line_of n bytes) (with_line n t) u h (λ l is g. line_kept n t u l (words_line_is n (after_blanks bytes) l is) g k)

-- the loop

pub one_line : (n : ℕ) (t u : Timeline) (w : List ℕ) (ws : List (List ℕ)) → with_bytes n t w ≡ Ok u → with_lines n t (w ∷ ws) ≡ with_lines (n + 1) u ws
one_line n t u w ws h = ap (λ (r : Result Timeline TimelineFault). r >>= λ x. with_lines (n + 1) x ws) h

pub bad_line : (n : ℕ) (t : Timeline) (f : TimelineFault) (w : List ℕ) (ws : List (List ℕ)) → with_bytes n t w ≡ Err f → with_lines n t (w ∷ ws) ≡ Err f
bad_line n t f w ws h = ap (λ (r : Result Timeline TimelineFault). r >>= λ x. with_lines (n + 1) x ws) h

-- the last line
pub last_line : (n : ℕ) (t : Timeline) (w : List ℕ) → with_lines n t (w ∷ []) ≡ with_bytes n t w
last_line n t w = same (with_bytes n t w)
  where
    same : (r : Result Timeline TimelineFault) → (r >>= λ x. Ok x) ≡ r
    same (Ok x) = refl
    same (Err f) = refl

pub told_at_end : (n : ℕ) (t : Timeline) (bytes : List ℕ) (r : Result Timeline TimelineFault) → Reads r (with_bytes n t bytes) → IsKept t → IfOk r (λ u. AreTold u.events)
told_at_end n t bytes (Ok u) h k = (bytes_kept n t u bytes h k).told
told_at_end n t bytes (Err f) h k = tt
