-- Reading a log gives the events whose log it is, and no others have it.
use Rattle.std.proofs.Common.{◌≡◌, ◌≢◌, inl, inr, ℕ, ◌+◌, ◌-◌, ◌<◌, ◌^◌, List, [], ◌∷◌, ◌++◌, length, Bool, true, false, Option, Some, None, Result, Ok, Err, refl, sym, ap, subst, ◌∙◌, append_assoc, arith}
use Rattle.std.specs.Prelude.{◌==◌, ◌&&◌, ◌||◌, not, if◌then◌else◌, nat_lt, codes, IsTrue, IfOk, IfErr}
use Rattle.std.specs.Fmt.{decimal}
use Rattle.std.specs.List.{list_all}
use Rattle.std.specs.Str.{bytes_eq}
use Rattle.std.proofs.lemmas.List.{nil_from_length, append-nil}
use Rattle.std.proofs.lemmas.Bool.{and_parts, eqb-true}
use Rattle.std.proofs.lemmas.Bool.Decides.{nat_tests}
use Rattle.std.proofs.lemmas.Fmt.{length-decimal-le, decimal_nonempty}
use Rattle.child_events.specs.declared.child_numbers.ChildNumbers.{ChildNumbers}
use Rattle.child_events.specs.declared.child_numbers.ChildNumbers.TheVariants.{To16, To999}
use Rattle.child_events.specs.declared.event.What.TheVariants as what
use Rattle.child_events.specs.declared.event.Answer.TheVariants as answer
use Rattle.child_events.specs.declared.event.HallEvent.{HallEvent}
use Rattle.child_events.specs.declared.event.HallEvent.TheVariants as hall
use Rattle.child_events.specs.declared.faults.LogFault.{LogFault}
use Rattle.child_events.specs.declared.faults.LogFault.TheVariants as fault
use Rattle.child_events.specs.declared.version.Version.{Version}
use Rattle.child_events.specs.declared.version.Version.TheVariants.{Plain, Counted}
use Rattle.child_events.specs.Log.{longest, version_name, line_of, lines_text, heading, total_line, fields_of, joined, fits, numbers_of, IsOfBytes, AllFit, AreLogged, PlainLog, CountedLog, LogText}
use Rattle.child_events.specs.Reading.{parts, or_fault, number_of, line_event, fields_event, any_empty, first_word, version_of, numbers_in, version_events, parts_events, total_of, line_total, closed, last_part, none_where, with_line, lines_events, log_events, fault_in, first_fault, Reads, Refused, ◌>>=◌}
use Rattle.child_events.proofs.Parts.{parts_first}
use Rattle.child_events.proofs.Plain.{ArePlain, without_joined, joined-parts, parts_joined, joined_len}
use Rattle.child_events.proofs.Decimals.{number_said, number_meant}
use Rattle.child_events.proofs.Lines.{lines_more, parts_some, either_way}
use Rattle.child_events.proofs.Said.{IsLine, line_said, is_word}
use Rattle.child_events.proofs.Meant.{line_meant, line_short, long_enough, not_long, plain_fields, plain_decimal, fields_parts}
use Rattle.child_events.proofs.Closing.{same_number, versioned}

-- what stands behind the events of a version, where line n is the next
abbrev Ends : Version → ℕ → List ℕ → Type 0
Ends Plain n rest = rest ≡ []
Ends (Counted nums) n rest = (rest ≡ total_line (n - 2)) × (n - 2 < 10 ^ 16)

-- from line n on, the bytes are the lines of these events, and then the end
record AreLines (v : Version) (n : ℕ) (bytes : List ℕ) (es : List HallEvent) : Type 0 where
  rest : List ℕ
  text : bytes ≡ lines_text es ++ rest
  logged : AreLogged (numbers_in v) es
  ends : Ends v (n + length es) rest

-- the first line, and then the others
lines_first : (e : HallEvent) (es : List HallEvent) (rest : List ℕ) → lines_text (e ∷ es) ++ rest ≡ line_of e ++ 10 ∷ (lines_text es ++ rest)
lines_first e es rest = append_assoc (line_of e ++ 10 ∷ []) (lines_text es) rest ∙ append_assoc (line_of e) (10 ∷ []) (lines_text es ++ rest)

-- Reading: the end, and the line of a total.

last_said : (v : Version) (n : ℕ) (w : List ℕ) (es : List HallEvent) → none_where (last_part v n w) ≡ Ok es → AreLines v n w es
last_said (Counted nums) n w es h = by_tests (nat_lt (longest nums) (length w)) (length w == 0) h
  where
    by_tests : (p q : Bool) → none_where (if p then Err (fault.TooLong n) else if not q then Err (fault.Shape n) else Err (fault.Total n)) ≡ Ok es → AreLines (Counted nums) n w es
    by_tests true q said = absurd (cc)
    by_tests false true said = absurd (cc)
    by_tests false false said = absurd (cc)
last_said Plain n w es h = by_tests (nat_lt (longest To16) (length w)) (length w == 0) refl h
  where
    by_tests : (p q : Bool) → (length w == 0) ≡ q → none_where (if p then Err (fault.TooLong n) else if not q then Err (fault.Shape n) else Ok tt) ≡ Ok es → AreLines Plain n w es
    by_tests true q none said = absurd (cc)
    by_tests false false none said = absurd (cc)
    by_tests false true none said =
        let same : [] ≡ es = cc in
        subst (AreLines Plain n w) same (record { rest = []; text = nil_from_length w (eqb-true (length w) 0 none); logged = (tt, tt); ends = refl })

-- the line is that of k events
record IsTotal (w : List ℕ) (k : ℕ) : Type 0 where
  text : w ++ 10 ∷ [] ≡ total_line k
  small : k < 10 ^ 16

total_said : (n : ℕ) (f : LogFault) (ws : List (List ℕ)) (k : ℕ) → total_of n f ws ≡ Ok k → IsTotal (joined 32 ws) k
total_said n f [] k h = absurd (cc)
total_said n f (a ∷ []) k h = absurd (cc)
total_said n f (a ∷ m ∷ []) k h = by_tests (bytes_eq a (codes "total")) (length m == 0) (number_of m) refl refl h
  where
    total_text : List ℕ → List ℕ
    total_text x = joined 32 (codes "total" ∷ x ∷ []) ++ 10 ∷ []

    by_tests : (p q : Bool) (o : Option ℕ) → bytes_eq a (codes "total") ≡ p → number_of m ≡ o → (if p && not q then or_fault (fault.Number n) o else Err f) ≡ Ok k → IsTotal (joined 32 (a ∷ m ∷ [])) k
    by_tests false q o named is said = absurd (cc)
    by_tests true true o named is said = absurd (cc)
    by_tests true false None named is said = absurd (cc)
    by_tests true false (Some j) named is said =
        let same : j ≡ k = cc in
        let number = number_said m k (is ∙ ap Some same) in
        record {
          text = ap (λ (x : List ℕ). joined 32 (x ∷ m ∷ []) ++ 10 ∷ []) (is_word a (codes "total") named) ∙ ap total_text number.text;
          small = number.small;
        }
total_said n f (a ∷ m ∷ x ∷ ws) k h = absurd (cc)

line_total_said : (nums : ChildNumbers) (n : ℕ) (f : LogFault) (w : List ℕ) (k : ℕ) → line_total (Counted nums) n f w ≡ Ok k → IsTotal w k
line_total_said nums n f w k h = by_test (nat_lt (longest nums) (length w)) h
  where
    by_test : (t : Bool) → (if t then Err f else total_of n f (parts 32 w)) ≡ Ok k → IsTotal w k
    by_test true said = absurd (cc)
    by_test false said = subst (λ (v : List ℕ). IsTotal v k) (joined-parts 32 w) (total_said n f (parts 32 w) k said)

ended_said : (v : Version) (n : ℕ) (f : LogFault) (w rest : List ℕ) (behind : List (List ℕ)) (total : Result ℕ LogFault) (es : List HallEvent) →
    line_total v n f w ≡ total → joined 10 behind ≡ rest → none_where (total >>= λ k. closed n (n - 2) k behind) ≡ Ok es → AreLines v n (w ++ 10 ∷ rest) es
ended_said v n f w rest behind (Err g) es says is h = absurd (cc)
ended_said Plain n f w rest behind (Ok k) es says is h = absurd (cc)
ended_said (Counted nums) n f w rest behind (Ok k) es says is h = by_tests (k == n - 2) (length (joined 10 behind) == 0) refl refl h
  where
    by_tests : (p q : Bool) → (k == n - 2) ≡ p → (length (joined 10 behind) == 0) ≡ q →
        none_where (if not p then Err (fault.Total n) else if not q then Err (fault.Total (n + 1)) else Ok tt) ≡ Ok es → AreLines (Counted nums) n (w ++ 10 ∷ rest) es
    by_tests false q counts none said = absurd (cc)
    by_tests true false counts none said = absurd (cc)
    by_tests true true counts none said =
        let same : [] ≡ es = cc in
        let count : k ≡ n + 0 - 2 = eqb-true k (n - 2) counts ∙ omega arith in
        let total = line_total_said nums n f w k says in
        let nothing : rest ≡ [] = sym is ∙ nil_from_length (joined 10 behind) (eqb-true (length (joined 10 behind)) 0 none) in
        subst (AreLines (Counted nums) n (w ++ 10 ∷ rest)) same (record {
          rest = w ++ 10 ∷ rest;
          text = refl;
          logged = (tt, tt);
          ends = (
            ap (λ (r : List ℕ). w ++ 10 ∷ r) nothing ∙ total.text ∙ ap total_line count,
            subst (λ (j : ℕ). j < 10 ^ 16) count total.small,
          );
        })

more_said : (v : Version) (n : ℕ) (w rest : List ℕ) (e : HallEvent) (others : Result (List HallEvent) LogFault) (es : List HallEvent) →
    IsLine (numbers_in v) w e → ((fs : List HallEvent) → others ≡ Ok fs → AreLines v (n + 1) rest fs) → (others >>= λ fs. Ok (e ∷ fs)) ≡ Ok es → AreLines v n (w ++ 10 ∷ rest) es
more_said v n w rest e (Err f) es is behind h = absurd (cc)
more_said v n w rest e (Ok fs) es is behind h =
    let same : e ∷ fs ≡ es = cc in
    let lines = behind fs refl in
    let count : n + 1 + length fs ≡ n + length (e ∷ fs) = omega arith in
    subst (AreLines v n (w ++ 10 ∷ rest)) same (record {
      rest = lines.rest;
      text = ap (λ (l : List ℕ). l ++ 10 ∷ rest) is.same ∙ ap (λ (r : List ℕ). line_of e ++ 10 ∷ r) lines.text ∙ sym (lines_first e fs lines.rest);
      logged = ((is.fit, lines.logged.0), (is.bytes, lines.logged.1));
      ends = subst (λ (m : ℕ). Ends v m lines.rest) count lines.ends;
    })

lines_said : (v : Version) (n : ℕ) (ws : List (List ℕ)) (es : List HallEvent) → 0 < length ws → lines_events v n ws ≡ Ok es → AreLines v n (joined 10 ws) es
lines_said v n [] es some h = absurd (omega arith)
lines_said v n (w ∷ []) es some h = subst (λ (x : List ℕ). AreLines v n x es) (sym (append-nil w)) (last_said v n w es h)
lines_said v n (w ∷ x ∷ ws) es some h = by_line (line_event (numbers_in v) n w) refl (λ fs. lines_said v (n + 1) (x ∷ ws) fs (omega arith)) h
  where
    by_line : (r : Result HallEvent LogFault) → line_event (numbers_in v) n w ≡ r → ((fs : List HallEvent) → lines_events v (n + 1) (x ∷ ws) ≡ Ok fs → AreLines v (n + 1) (joined 10 (x ∷ ws)) fs) →
        with_line v n w r (x ∷ ws) (lines_events v (n + 1) (x ∷ ws)) ≡ Ok es → AreLines v n (joined 10 (w ∷ x ∷ ws)) es
    by_line (Ok e) is others said = more_said v n w (joined 10 (x ∷ ws)) e (lines_events v (n + 1) (x ∷ ws)) es (line_said (numbers_in v) n w e is) others said
    by_line (Err f) is others said = ended_said v n f w (joined 10 (x ∷ ws)) (x ∷ ws) (line_total v n f w) es refl refl said

first_text : (bytes : List ℕ) (es : List HallEvent) → AreLines Plain 1 bytes es → PlainLog bytes es
first_text bytes es lines = (lines.text ∙ ap (λ (r : List ℕ). lines_text es ++ r) lines.ends ∙ append-nil (lines_text es), lines.logged)

-- the first line, and what stands behind it
pub heading_is : (nums : ChildNumbers) (rest : List ℕ) → heading nums ++ rest ≡ version_name nums ++ 10 ∷ rest
heading_is nums rest = append_assoc (version_name nums) (10 ∷ []) rest

-- a log of version 2 or 3 that may be read
abbrev IsCounted : ChildNumbers → List ℕ → List HallEvent → Type 0
IsCounted nums bytes es = CountedLog nums bytes es × (length es < 10 ^ 16)

with_heading : (nums : ChildNumbers) (rest : List ℕ) (es : List HallEvent) → AreLines (Counted nums) 2 rest es → IsCounted nums (heading nums ++ rest) es
with_heading nums rest es lines =
    let count : 2 + length es - 2 ≡ length es = omega arith in (
      (
        ap (λ (r : List ℕ). heading nums ++ r) lines.text
            ∙ ap (λ (r : List ℕ). heading nums ++ (lines_text es ++ r)) (lines.ends.0 ∙ ap total_line count),
        lines.logged,
      ),
      subst (λ (k : ℕ). k < 10 ^ 16) count lines.ends.1,
    )

version_said : (w : List ℕ) (nums : ChildNumbers) → version_of w ≡ Ok (Counted nums) → w ≡ version_name nums
version_said w nums h =
    by_tests (nat_lt (longest To16) (length w) || not (bytes_eq (first_word (parts 32 w)) (codes "exprun-log"))) (bytes_eq w (version_name To16)) (bytes_eq w (version_name To999)) refl refl h
  where
    named : (k : ChildNumbers) → w ≡ version_name k → ◌≡◌ {A = Result Version LogFault} (Ok (Counted k)) (Ok (Counted nums)) → w ≡ version_name nums
    named k is said = let same : k ≡ nums = cc in is ∙ ap version_name same

    by_tests : (p q r : Bool) → bytes_eq w (version_name To16) ≡ q → bytes_eq w (version_name To999) ≡ r →
        (if p then Ok Plain else if q then Ok (Counted To16) else if r then Ok (Counted To999) else Err (fault.Version 1)) ≡ Ok (Counted nums) → w ≡ version_name nums
    by_tests true q r hq hr said = absurd (cc)
    by_tests false true r hq hr said = named To16 (is_word w (version_name To16) hq) said
    by_tests false false true hq hr said = named To999 (is_word w (version_name To999) hr) said
    by_tests false false false hq hr said = absurd (cc)

-- what reads as events is their log
pub log_said : (bytes : List ℕ) (es : List HallEvent) → log_events bytes ≡ Ok es → LogText bytes es
log_said bytes es h = subst (λ (b : List ℕ). LogText b es) (joined-parts 10 bytes) (by_parts (parts 10 bytes) (parts_some 10 bytes) h)
  where
    by_version : (w x : List ℕ) (ws : List (List ℕ)) (named : Result Version LogFault) → version_of w ≡ named → (named >>= version_events w (x ∷ ws)) ≡ Ok es → LogText (joined 10 (w ∷ x ∷ ws)) es
    by_version w x ws (Err f) is said = absurd (cc)
    by_version w x ws (Ok Plain) is said = inl (first_text (joined 10 (w ∷ x ∷ ws)) es (lines_said Plain 1 (w ∷ x ∷ ws) es (omega arith) said))
    by_version w x ws (Ok (Counted nums)) is said =
        let rest = joined 10 (x ∷ ws) in
        let text = heading_is nums rest ∙ ap (λ (v : List ℕ). v ++ 10 ∷ rest) (sym (version_said w nums is)) in
        let log = subst (λ (b : List ℕ). IsCounted nums b es) text (with_heading nums rest es (lines_said (Counted nums) 2 (x ∷ ws) es (omega arith) said)) in
        inr (nums, log.0, log.1)

    by_parts : (ws : List (List ℕ)) → 0 < length ws → parts_events ws ≡ Ok es → LogText (joined 10 ws) es
    by_parts [] some said = absurd (omega arith)
    by_parts (w ∷ []) some said = inl (first_text (joined 10 (w ∷ [])) es (lines_said Plain 1 (w ∷ []) es (omega arith) said))
    by_parts (w ∷ x ∷ ws) some said = by_version w x ws (version_of w) refl said

-- Writing: the line of an event names no version, and that of a total is no event.

pub event_no_version : (e : HallEvent) → IsTrue (fits To16 e) → IsOfBytes e → version_of (line_of e) ≡ Ok Plain
event_no_version e fit bytes =
    ap (λ (ws : List (List ℕ)). if nat_lt (longest To16) (length (line_of e)) || not (bytes_eq (first_word ws) (codes "exprun-log")) then Ok Plain else other) (fields_parts e (plain_fields To16 e fit bytes))
    ∙ ap (λ (t : Bool). if t || not (bytes_eq (first_word (fields_of e)) (codes "exprun-log")) then Ok Plain else other) (not_long (longest To16) (length (line_of e)) (line_short To16 e fit bytes))
    ∙ by_event e
  where
    other : Result Version LogFault
    other =
        if bytes_eq (line_of e) (version_name To16) then Ok (Counted To16)
        else if bytes_eq (line_of e) (version_name To999) then Ok (Counted To999)
        else Err (fault.Version 1)

    by_event : (x : HallEvent) → (if not (bytes_eq (first_word (fields_of x)) (codes "exprun-log")) then Ok Plain else other) ≡ Ok Plain
    by_event (hall.Tick m) = refl
    by_event (hall.Child s c m (what.Out piece)) = refl
    by_event (hall.Child s c m what.Eof) = refl
    by_event (hall.Child s c m (what.ReadFail d)) = refl
    by_event (hall.Child s c m (what.Answer answer.Ok)) = refl
    by_event (hall.Child s c m (what.Answer (answer.Fail d))) = refl
    by_event (hall.Child s c m (what.Answer (answer.Exit k))) = refl
    by_event (hall.Child s c m (what.Answer answer.Killed)) = refl

fits_word : (k : ℕ) → k < 10 ^ 16 → k < 2 ^ 64
fits_word k small = omega arith

-- the words of a total
abbrev total_words : ℕ → List (List ℕ)
total_words k = codes "total" ∷ decimal k ∷ []

plain_total : (k : ℕ) → k < 10 ^ 16 → ArePlain (total_words k)
plain_total k small = (refl, (plain_decimal k (fits_word k small), tt))

total_short : (nums : ChildNumbers) (k : ℕ) → k < 10 ^ 16 → nat_lt (longest nums) (length (joined 32 (total_words k))) ≡ false
total_short nums k small =
    let digits = length-decimal-le 16 k (omega arith) small (fits_word k small) in
    let whole = joined_len (codes "total") (decimal k ∷ []) in
    not_long (longest nums) (length (joined 32 (total_words k))) (omega (arith, long_enough nums))

total_meant : (nums : ChildNumbers) (n k : ℕ) (f : LogFault) → k < 10 ^ 16 → line_total (Counted nums) n f (joined 32 (total_words k)) ≡ Ok k
total_meant nums n k f small =
    ap (λ (t : Bool). if t then Err f else total_of n f (parts 32 (joined 32 (total_words k)))) (total_short nums k small)
    ∙ ap (total_of n f) (parts_joined (codes "total") (decimal k ∷ []) (plain_total k small))
    ∙ ap (λ (t : Bool). if not t then or_fault (fault.Number n) (number_of (decimal k)) else Err f) (full (length (decimal k)) (decimal_nonempty k (fits_word k small)))
    ∙ ap (or_fault (fault.Number n)) (number_meant k small)
  where
    full : (j : ℕ) → 0 < j → (j == 0) ≡ false
    full j some = grind (arith, nat_tests)

total_no_event : (nums : ChildNumbers) (n k : ℕ) → k < 10 ^ 16 → line_event nums n (joined 32 (total_words k)) ≡ Err (fault.Shape n)
total_no_event nums n k small =
    ap (λ (t : Bool). if t then Err (fault.TooLong n) else fields_event nums n (parts 32 (joined 32 (total_words k)))) (total_short nums k small)
    ∙ ap (fields_event nums n) (parts_joined (codes "total") (decimal k ∷ []) (plain_total k small))
    ∙ either_way (any_empty (total_words k)) (Err (fault.Shape n))

end_meant : (v : Version) (n : ℕ) (rest : List ℕ) → Ends v n rest → lines_events v n (parts 10 rest) ≡ Ok []
end_meant Plain n rest ends = ap (λ (r : List ℕ). lines_events Plain n (parts 10 r)) ends
end_meant (Counted nums) n rest ends =
    ap (λ (r : List ℕ). lines_events (Counted nums) n (parts 10 r)) ends.0
    ∙ ap (lines_events (Counted nums) n) (parts_first 10 (joined 32 (total_words (n - 2))) [] (without_joined (total_words (n - 2)) (plain_total (n - 2) ends.1)))
    ∙ ap (λ (r : Result HallEvent LogFault). with_line (Counted nums) n (joined 32 (total_words (n - 2))) r ([] ∷ []) (lines_events (Counted nums) (n + 1) ([] ∷ []))) (total_no_event nums n (n - 2) ends.1)
    ∙ ap (λ (r : Result ℕ LogFault). none_where (r >>= λ k. closed n (n - 2) k ([] ∷ []))) (total_meant nums n (n - 2) (fault.Shape n) ends.1)
    ∙ ap (λ (t : Bool). none_where (if not t then Err (fault.Total n) else Ok tt)) (same_number (n - 2) (n - 2) refl)

lines_meant : (v : Version) (n : ℕ) (es : List HallEvent) (rest : List ℕ) → AreLogged (numbers_in v) es → Ends v (n + length es) rest → lines_events v n (parts 10 (lines_text es ++ rest)) ≡ Ok es
lines_meant v n [] rest logged ends = let count : n + 0 ≡ n = omega arith in end_meant v n rest (subst (λ (m : ℕ). Ends v m rest) count ends)
lines_meant v n (e ∷ es) rest logged ends =
    let fit = logged.0.0 in
    let bytes = logged.1.0 in
    let count : n + length (e ∷ es) ≡ n + 1 + length es = omega arith in
    ap (λ (b : List ℕ). lines_events v n (parts 10 b)) (lines_first e es rest)
    ∙ ap (lines_events v n) (parts_first 10 (line_of e) (lines_text es ++ rest) (without_joined (fields_of e) (plain_fields (numbers_in v) e fit bytes)))
    ∙ lines_more v n (line_of e) (parts 10 (lines_text es ++ rest)) (parts_some 10 (lines_text es ++ rest))
    ∙ ap (λ (r : Result HallEvent LogFault). with_line v n (line_of e) r (parts 10 (lines_text es ++ rest)) (lines_events v (n + 1) (parts 10 (lines_text es ++ rest)))) (line_meant (numbers_in v) n e fit bytes)
    ∙ ap (λ (r : Result (List HallEvent) LogFault). r >>= λ fs. Ok (e ∷ fs)) (lines_meant v (n + 1) es rest (logged.0.1, logged.1.1) (subst (λ (m : ℕ). Ends v m rest) count ends))

first_meant : (bytes : List ℕ) (es : List HallEvent) → PlainLog bytes es → log_events bytes ≡ Ok es
first_meant bytes [] h = ap log_events h.0
first_meant bytes (e ∷ es) h =
    let fit = h.1.0.0 in
    let of_bytes = h.1.1.0 in
    let split = parts_first 10 (line_of e) (lines_text es) (without_joined (fields_of e) (plain_fields To16 e fit of_bytes)) in
    let text : bytes ≡ line_of e ++ 10 ∷ lines_text es = h.0 ∙ append_assoc (line_of e) (10 ∷ []) (lines_text es) in
    versioned bytes (line_of e) (lines_text es) (Ok Plain) (ap (parts 10) text ∙ split) (event_no_version e fit of_bytes)
    ∙ ap (lines_events Plain 1) (sym split)
    ∙ ap (λ (b : List ℕ). lines_events Plain 1 (parts 10 b)) (sym (append_assoc (line_of e) (10 ∷ []) (lines_text es)) ∙ sym (append-nil (lines_text (e ∷ es))))
    ∙ lines_meant Plain 1 (e ∷ es) [] h.1 refl

-- behind its first line, version 2 or 3 is read as such
pub headed : (nums : ChildNumbers) (rest : List ℕ) → log_events (heading nums ++ rest) ≡ lines_events (Counted nums) 2 (parts 10 rest)
headed To16 rest = versioned (heading To16 ++ rest) (version_name To16) rest (Ok (Counted To16)) refl refl
headed To999 rest = versioned (heading To999 ++ rest) (version_name To999) rest (Ok (Counted To999)) refl refl

pub counted_meant : (nums : ChildNumbers) (bytes : List ℕ) (es : List HallEvent) → CountedLog nums bytes es → length es < 10 ^ 16 → log_events bytes ≡ Ok es
counted_meant nums bytes es h few =
    let count : length es ≡ 2 + length es - 2 = omega arith in
    ap log_events h.0
    ∙ headed nums (lines_text es ++ total_line (length es))
    ∙ lines_meant (Counted nums) 2 es (total_line (length es)) h.1 (ap total_line count, subst (λ (k : ℕ). k < 10 ^ 16) count few)

pub counted_said : (nums : ChildNumbers) (bytes rest : List ℕ) (es : List HallEvent) → bytes ≡ heading nums ++ rest → log_events bytes ≡ Ok es → CountedLog nums bytes es
counted_said nums bytes rest es is h =
    let lines = lines_said (Counted nums) 2 (parts 10 rest) es (parts_some 10 rest) (sym (ap log_events is ∙ headed nums rest) ∙ h) in
    subst (λ (b : List ℕ). CountedLog nums b es) (ap (λ (r : List ℕ). heading nums ++ r) (joined-parts 10 rest) ∙ sym is) (with_heading nums (joined 10 (parts 10 rest)) es lines).0

-- and a log reads as its events
pub log_meant : (bytes : List ℕ) (es : List HallEvent) → LogText bytes es → log_events bytes ≡ Ok es
log_meant bytes es (inl h) = first_meant bytes es h
log_meant bytes es (inr h) = counted_meant h.0 bytes es h.1 h.2

-- a list of events has one log at most of each version
pub log_one_text : (bytes others : List ℕ) (es : List HallEvent) → PlainLog bytes es → PlainLog others es → bytes ≡ others
log_one_text bytes others es hb ho = hb.0 ∙ sym ho.0

pub log_one_written : (nums : ChildNumbers) (bytes others : List ℕ) (es : List HallEvent) → CountedLog nums bytes es → CountedLog nums others es → bytes ≡ others
log_one_written nums bytes others es hb ho = hb.0 ∙ sym ho.0

-- events that version 2 allows are written in it
list_fits : (es : List HallEvent) → AllFit To16 es → list_all (fits To16) es ≡ true
list_fits [] h = refl
list_fits (e ∷ es) h = both (fits To16 e) (list_all (fits To16) es) h.0 (list_fits es h.1)
  where
    both : (p q : Bool) → p ≡ true → q ≡ true → (p && q) ≡ true
    both true q hp hq = hq
    both false q hp hq = hp

all_fit : (es : List HallEvent) → list_all (fits To16) es ≡ true → AllFit To16 es
all_fit [] h = tt
all_fit (e ∷ es) h = let two = and_parts (fits To16 e) (list_all (fits To16) es) h in (two.0, all_fit es two.1)

pub in_version_2 : (es : List HallEvent) → AllFit To16 es → numbers_of es ≡ To16
in_version_2 es h = ap (λ (t : Bool). if t then To16 else To999) (list_fits es h)

-- and no others
pub in_version_3 : (es : List HallEvent) → (AllFit To16 es → ⊥) → numbers_of es ≡ To999
in_version_3 es h = by_test (list_all (fits To16) es) refl
  where
    by_test : (t : Bool) → list_all (fits To16) es ≡ t → (if t then To16 else To999) ≡ To999
    by_test true is = absurd (h (all_fit es is))
    by_test false is = refl

-- a text is the log of one list of events at most
pub log_one_list : (bytes : List ℕ) (es fs : List HallEvent) → LogText bytes es → LogText bytes fs → es ≡ fs
log_one_list bytes es fs he hf = let e = log_meant bytes es he in let f = log_meant bytes fs hf in cc

-- it is the log of some events exactly where no fault is found
pub log_sound : (bytes : List ℕ) (es : List HallEvent) → LogText bytes es → first_fault bytes ≡ None
log_sound bytes es h = ap fault_in (log_meant bytes es h)

pub log_complete : (bytes : List ℕ) → first_fault bytes ≡ None → (es : List HallEvent) × LogText bytes es
log_complete bytes h = by_cases (log_events bytes) refl h
  where
    by_cases : (r : Result (List HallEvent) LogFault) → log_events bytes ≡ r → fault_in r ≡ None → (es : List HallEvent) × LogText bytes es
    by_cases (Ok es) is none = (es, log_said bytes es is)
    by_cases (Err f) is none = absurd (cc)

-- what a reading promises
pub read_found : (bytes : List ℕ) (r : Result (List HallEvent) LogFault) → Reads r (log_events bytes) → IfOk r (λ es. LogText bytes es)
read_found bytes (Ok es) h = log_said bytes es h
read_found bytes (Err f) h = tt

pub read_refused : (bytes : List ℕ) (r : Result (List HallEvent) LogFault) → Reads r (log_events bytes) → IfErr r (λ f. f ≢ fault.Memory → Refused bytes f)
read_refused bytes (Ok es) h = tt
read_refused bytes (Err f) h = λ other. (ap fault_in (h other), λ es text. let e = log_meant bytes es text in let g = h other in cc)
