-- What is written in version 2 is the log of no other events.
use Rattle.std.proofs.Common.{◌≡◌, inl, inr, ◌<◌, ◌≤◌, ◌^◌, ℕ, ◌+◌, suc, List, [], ◌∷◌, ◌++◌, length, Ok, Result, refl, sym, ap, subst, ◌∙◌, append_assoc, arith}
use Rattle.std.specs.Prelude.{codes}
use Rattle.std.specs.Fmt.{decimal}
use Rattle.child_events.specs.declared.child_numbers.ChildNumbers.TheVariants.{To16}
use Rattle.child_events.specs.declared.event.HallEvent.{HallEvent}
use Rattle.child_events.specs.declared.event.HallEvent.TheVariants as hall
use Rattle.child_events.specs.declared.faults.LogFault.{LogFault}
use Rattle.child_events.specs.Log.{version_name, heading, line_of, lines_text, total_line, kind_text, held_text, fields_of, joined, counted_text, AreLogged, PlainLog, CountedLog, LogText}
use Rattle.child_events.specs.Reading.{parts, line_event}
use Rattle.child_events.proofs.Parts.{parts_first}
use Rattle.child_events.proofs.Plain.{ArePlain, without_joined, parts_joined}
use Rattle.child_events.proofs.Meant.{line_meant, plain_fields, plain_decimal, fields_parts}
use Rattle.child_events.proofs.Whole.{log_meant, counted_said}

head_is : (a b : List ℕ) (xs ys : List (List ℕ)) → a ∷ xs ≡ b ∷ ys → a ≡ b
head_is a b xs ys h = cc

tail_is : (a b : List ℕ) (xs ys : List (List ℕ)) → a ∷ xs ≡ b ∷ ys → xs ≡ ys
tail_is a b xs ys h = cc

-- the words of a total
abbrev total_words : ℕ → List (List ℕ)
total_words k = codes "total" ∷ decimal k ∷ []

fits_word : (k : ℕ) → k < 10 ^ 16 → k < 2 ^ 64
fits_word k small = omega arith

plain_total : (k : ℕ) → k < 10 ^ 16 → ArePlain (total_words k)
plain_total k small = (refl, (plain_decimal k (fits_word k small), tt))

-- the first part of the lines of events is the first line
first_part : (e : HallEvent) (es : List HallEvent) (rest : List ℕ) → AreLogged To16 (e ∷ es) → parts 10 (lines_text (e ∷ es) ++ rest) ≡ line_of e ∷ parts 10 (lines_text es ++ rest)
first_part e es rest logged =
    ap (parts 10) (append_assoc (line_of e ++ 10 ∷ []) (lines_text es) rest ∙ append_assoc (line_of e) (10 ∷ []) (lines_text es ++ rest))
    ∙ parts_first 10 (line_of e) (lines_text es ++ rest) (without_joined (fields_of e) (plain_fields To16 e logged.0.0 logged.1.0))

total_part : (k : ℕ) → k < 10 ^ 16 → parts 10 (total_line k) ≡ joined 32 (total_words k) ∷ parts 10 []
total_part k small = parts_first 10 (joined 32 (total_words k)) [] (without_joined (total_words k) (plain_total k small))

-- a line of an event isn't that of a total

two_words : (k : ℕ) (a b c d : List ℕ) (more : List (List ℕ)) → a ∷ b ∷ c ∷ d ∷ more ≡ total_words k → ⊥
two_words k a b c d more h = let size = ap length h in absurd (omega (arith, size))

no_tick : (k m : ℕ) → codes "tick" ∷ decimal m ∷ [] ≡ total_words k → ⊥
no_tick k m h = let size : 4 ≡ 5 = ap length (head_is (codes "tick") (codes "total") (decimal m ∷ []) (decimal k ∷ []) h) in absurd (omega (arith, size))

no_fields : (e : HallEvent) (k : ℕ) → fields_of e ≡ total_words k → ⊥
no_fields (hall.Child s c m w) k h = two_words k (kind_text w) (decimal s) (decimal c) (decimal m) (held_text w) h
no_fields (hall.Tick m) k h = no_tick k m h

no_total : (e : HallEvent) (es : List HallEvent) (k : ℕ) → AreLogged To16 (e ∷ es) → k < 10 ^ 16 → line_of e ≡ joined 32 (total_words k) → ⊥
no_total e es k logged small same =
    no_fields e k (sym (fields_parts e (plain_fields To16 e logged.0.0 logged.1.0)) ∙ ap (parts 32) same ∙ parts_joined (codes "total") (decimal k ∷ []) (plain_total k small))

ok_of : (e f : HallEvent) → ◌≡◌ {A = Result HallEvent LogFault} (Ok e) (Ok f) → e ≡ f
ok_of e f h = cc

two_conses : (e f : HallEvent) (es fs : List HallEvent) → e ≡ f → es ≡ fs → e ∷ es ≡ f ∷ fs
two_conses e f es fs p q = ap (λ (z : HallEvent). z ∷ es) p ∙ ap (λ (zs : List HallEvent). f ∷ zs) q

-- the lines of two lists of events of which one is known to be short enough
same_lines : (m k : ℕ) (es fs : List HallEvent) → AreLogged To16 es → AreLogged To16 fs → k < 10 ^ 16 → m + length fs ≡ k + length es →
    parts 10 (lines_text es ++ total_line m) ≡ parts 10 (lines_text fs ++ total_line k) → fs ≡ es
same_lines m k [] [] a b small count h = refl
same_lines m k [] (f ∷ fs) a b small count h =
    let less : m < 10 ^ 16 = shorter m k (length fs) (10 ^ 16) small count in
    absurd (no_total f fs m b less (sym (head_is _ _ _ _ (sym (total_part m less) ∙ h ∙ first_part f fs (total_line k) b))))
  where
    shorter : (m k l top : ℕ) → k < top → m + suc l ≡ k + 0 → m < top
    shorter m k l top p q = omega (arith, p, q)
same_lines m k (e ∷ es) [] a b small count h =
    absurd (no_total e es k a small (head_is _ _ _ _ (sym (first_part e es (total_line m) a) ∙ h ∙ total_part k small)))
same_lines m k (e ∷ es) (f ∷ fs) a b small count h =
    let both = sym (first_part e es (total_line m) a) ∙ h ∙ first_part f fs (total_line k) b in
    let one : line_of e ≡ line_of f = head_is _ _ _ _ both in
    two_conses f e fs es
    (ok_of f e (sym (line_meant To16 1 f b.0.0 b.1.0) ∙ ap (line_event To16 1) (sym one) ∙ line_meant To16 1 e a.0.0 a.1.0))
    (same_lines m k es fs (a.0.1, a.1.1) (b.0.1, b.1.1) small (omega (arith, count)) (tail_is _ _ _ _ both))

-- a text is as long as its list of events at the least

front_shorter : (xs ys : List ℕ) → length xs ≤ length (xs ++ ys)
front_shorter [] ys = omega arith
front_shorter (x ∷ xs) ys = let h = front_shorter xs ys in omega (arith, h)

rest_shorter : (xs ys : List ℕ) → length ys ≤ length (xs ++ ys)
rest_shorter [] ys = omega arith
rest_shorter (x ∷ xs) ys = let h = rest_shorter xs ys in omega (arith, h)

one_shorter : (xs : List ℕ) (b : ℕ) (ys : List ℕ) → length ys + 1 ≤ length ((xs ++ b ∷ []) ++ ys)
one_shorter [] b ys = omega arith
one_shorter (x ∷ xs) b ys = let h = one_shorter xs b ys in omega (arith, h)

lines_longer : (es : List HallEvent) → length es ≤ length (lines_text es)
lines_longer [] = omega arith
lines_longer (e ∷ es) = up (length es) (length (lines_text es)) (length (lines_text (e ∷ es))) (lines_longer es) (one_shorter (line_of e) 10 (lines_text es))
  where
    up : (a b c : ℕ) → a ≤ b → b + 1 ≤ c → suc a ≤ c
    up a b c p q = omega (arith, p, q)

no_longer : (a b c d : ℕ) → a ≤ b → b ≤ c → c ≤ d → a ≤ d
no_longer a b c d p q r = omega (arith, p, q, r)

pub text_longer : (bytes : List ℕ) (es : List HallEvent) → CountedLog To16 bytes es → length es ≤ length bytes
text_longer bytes es log =
    subst (λ (b : List ℕ). length es ≤ length b) (sym log.0)
    (no_longer (length es) (length (lines_text es)) (length (lines_text es ++ total_line (length es))) (length (counted_text To16 es))
    (lines_longer es) (front_shorter (lines_text es) (total_line (length es))) (rest_shorter (heading To16) (lines_text es ++ total_line (length es))))

pub below : (a b c : ℕ) → a ≤ b → b < c → a < c
below a b c p q = omega (arith, p, q)

behind_heading : (front xs ys : List ℕ) → front ++ xs ≡ front ++ ys → xs ≡ ys
behind_heading [] xs ys h = h
behind_heading (x ∷ front) xs ys h = behind_heading front xs ys (cc)

pub one_written_list : (bytes : List ℕ) (es fs : List HallEvent) → CountedLog To16 bytes es → LogText bytes fs → fs ≡ es
one_written_list bytes es fs log found = by_version found
  where
    both : CountedLog To16 bytes fs → length fs < 10 ^ 16 → fs ≡ es
    both log' few =
        same_lines (length es) (length fs) es fs log.1 log'.1 few (let e : length es + length fs ≡ length fs + length es = omega arith in e)
        (ap (parts 10) (behind_heading (heading To16) (lines_text es ++ total_line (length es)) (lines_text fs ++ total_line (length fs)) (sym log.0 ∙ log'.0)))

    again : CountedLog To16 bytes fs
    again = counted_said To16 bytes (lines_text es ++ total_line (length es)) fs log.0 (log_meant bytes fs found)

    too_long : (a b c : ℕ) → a ≤ b → b + 1 ≤ c → c ≡ a → ⊥
    too_long a b c p q r = absurd (omega (arith, p, q, r))

    -- in version 1 there is no heading
    no_shorter : PlainLog bytes fs → CountedLog To16 bytes fs → ⊥
    no_shorter first second =
        too_long (length (lines_text fs)) (length (lines_text fs ++ total_line (length fs))) (length (counted_text To16 fs))
        (front_shorter (lines_text fs) (total_line (length fs))) (one_shorter (version_name To16) 10 (lines_text fs ++ total_line (length fs))) (ap length (sym second.0 ∙ first.0))

    by_version : LogText bytes fs → fs ≡ es
    by_version (inr counted) = both again counted.2
    by_version (inl first) = absurd (no_shorter first again)
