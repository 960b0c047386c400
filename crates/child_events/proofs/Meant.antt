-- The line of an event within the limits reads as that event.
use Rattle.std.proofs.Common.{◌≡◌, ℕ, ◌+◌, ◌<◌, ◌≤◌, ◌^◌, List, [], ◌∷◌, length, Bool, true, false, ◌&&◌, ◌||◌, Option, Some, Result, Ok, Err, refl, ap, ◌∙◌, arith}
use Rattle.std.specs.Prelude.{◌==◌, if◌then◌else◌, nat_le, nat_lt, codes, IsTrue}
use Rattle.std.specs.Fmt.{decimal}
use Rattle.std.specs.List.{AllByRecursion}
use Rattle.std.specs.Str.{all_ascii_digits}
use Rattle.std.proofs.lemmas.Bool.Decides.{nat_tests}
use Rattle.std.proofs.lemmas.Fmt.{digits_decimal, length-decimal-le, decimal_nonempty}
use Rattle.std.proofs.lemmas.Str.Parse.{numerals_by_value, tells_all_ascii_digits}
use Rattle.hex.specs.Hex.{encode_lower, lower_digits}
use Rattle.hex.proofs.HexLemmas.{length-encode_with}
use Rattle.child_events.specs.declared.child_numbers.ChildNumbers.{ChildNumbers}
use Rattle.child_events.specs.declared.child_numbers.ChildNumbers.TheVariants.{To16, To999}
use Rattle.child_events.specs.declared.event.Cause.{Cause}
use Rattle.child_events.specs.declared.event.Cause.TheVariants as cause
use Rattle.child_events.specs.declared.event.Answer.TheVariants as answer
use Rattle.child_events.specs.declared.event.What.{What}
use Rattle.child_events.specs.declared.event.What.TheVariants as what
use Rattle.child_events.specs.declared.event.HallEvent.{HallEvent}
use Rattle.child_events.specs.declared.event.HallEvent.TheVariants as hall
use Rattle.child_events.specs.declared.fields.Stamp.{Stamp}
use Rattle.child_events.specs.declared.faults.LogFault.{LogFault}
use Rattle.child_events.specs.declared.faults.LogFault.TheVariants as fault
use Rattle.child_events.specs.Log.{least_child, most_child, longest, cause_text, hex_text, kind_text, held_text, fields_of, line_of, piece_len, fits, HoldsBytes, IsOfBytes}
use Rattle.child_events.specs.Reading.{parts, or_fault, ◌>>=◌, number_within, piece_of, cause_of, what_failed, moment_of, stamp_of, stamped, event_of, any_empty, fields_event, line_event}
use Rattle.child_events.proofs.Decimals.{within_meant}
use Rattle.child_events.proofs.Hexes.{piece_meant, encoded_lower}
use Rattle.child_events.proofs.Plain.{is_plain, ArePlain, plain_digits, plain_hex, parts_joined, behind_len, joined_len}

-- the limits, one by one
record Fit (nums : ChildNumbers) (s c m : ℕ) (w : What) : Type 0 where
  script_low : 1 ≤ s
  script_high : s ≤ 64
  child_low : least_child nums ≤ c
  child_high : c ≤ most_child nums
  moment_high : m ≤ 9000000000000000
  few : piece_len w ≤ 4096

le_said : (a b : ℕ) → nat_le a b ≡ true → a ≤ b
le_said a b h = grind (arith, nat_tests)

fit_child : (nums : ChildNumbers) (s c m : ℕ) (w : What) → IsTrue (fits nums (hall.Child s c m w)) → Fit nums s c m w
fit_child nums s c m w h =
    by_tests (nat_le 1 s) (nat_le s 64) (nat_le (least_child nums) c) (nat_le c (most_child nums)) (nat_le m 9000000000000000) (nat_le (piece_len w) 4096) refl refl refl refl refl refl h
  where
    by_tests : (p q r t u v : Bool) → nat_le 1 s ≡ p → nat_le s 64 ≡ q → nat_le (least_child nums) c ≡ r → nat_le c (most_child nums) ≡ t → nat_le m 9000000000000000 ≡ u → nat_le (piece_len w) 4096 ≡ v → (p && q && r && t && u && v) ≡ true → Fit nums s c m w
    by_tests true true true true true true hp hq hr ht hu hv h = record {
      script_low = le_said 1 s hp;
      script_high = le_said s 64 hq;
      child_low = le_said (least_child nums) c hr;
      child_high = le_said c (most_child nums) ht;
      moment_high = le_said m 9000000000000000 hu;
      few = le_said (piece_len w) 4096 hv;
    }
    by_tests true true true true true false hp hq hr ht hu hv h = absurd (cc)
    by_tests true true true true false v hp hq hr ht hu hv h = absurd (cc)
    by_tests true true true false u v hp hq hr ht hu hv h = absurd (cc)
    by_tests true true false t u v hp hq hr ht hu hv h = absurd (cc)
    by_tests true false r t u v hp hq hr ht hu hv h = absurd (cc)
    by_tests false q r t u v hp hq hr ht hu hv h = absurd (cc)

child_small : (nums : ChildNumbers) (c : ℕ) → c ≤ most_child nums → c ≤ 999
child_small To16 c le = omega (arith, le)
child_small To999 c le = omega (arith, le)

pub plain_decimal : (k : ℕ) → k < 2 ^ 64 → is_plain (decimal k) ≡ true
plain_decimal k fits = plain_digits (decimal k) (digits_decimal (numerals_by_value (λ ds. all_ascii_digits ds ≡ true) tells_all_ascii_digits) k fits)

plain_kind : (w : What) → is_plain (kind_text w) ≡ true
plain_kind (what.Out piece) = refl
plain_kind what.Eof = refl
plain_kind (what.ReadFail c) = refl
plain_kind (what.Answer answer.Ok) = refl
plain_kind (what.Answer (answer.Fail c)) = refl
plain_kind (what.Answer (answer.Exit n)) = refl
plain_kind (what.Answer answer.Killed) = refl

plain_cause : (c : Cause) → is_plain (cause_text c) ≡ true
plain_cause cause.NotFound = refl
plain_cause cause.Denied = refl
plain_cause cause.Broken = refl
plain_cause cause.Memory = refl
plain_cause cause.Other = refl

plain_held : (w : What) → HoldsBytes w → ArePlain (held_text w)
plain_held (what.Out []) bytes = (refl, tt)
plain_held (what.Out (b ∷ bs)) bytes = (plain_hex (encode_lower (b ∷ bs)) (encoded_lower (b ∷ bs) bytes), tt)
plain_held what.Eof bytes = tt
plain_held (what.ReadFail c) bytes = (plain_cause c, tt)
plain_held (what.Answer answer.Ok) bytes = tt
plain_held (what.Answer (answer.Fail c)) bytes = (plain_cause c, tt)
plain_held (what.Answer (answer.Exit n)) bytes = (plain_decimal n (let small : n < 256 = bytes in omega arith), tt)
plain_held (what.Answer answer.Killed) bytes = tt

pub plain_fields : (nums : ChildNumbers) (e : HallEvent) → IsTrue (fits nums e) → IsOfBytes e → ArePlain (fields_of e)
plain_fields nums (hall.Tick m) fit bytes = (refl, (plain_decimal m (let le : m ≤ 9000000000000000 = le_said m 9000000000000000 fit in omega arith), tt))
plain_fields nums (hall.Child s c m w) fit bytes =
    let f = fit_child nums s c m w fit in (
      plain_kind w,
      (plain_decimal s (omega (arith, f.script_high)), (plain_decimal c (omega (arith, child_small nums c f.child_high)), (plain_decimal m (omega (arith, f.moment_high)), plain_held w bytes))),
    )

cause_len : (c : Cause) → length (cause_text c) ≤ 8
cause_len cause.NotFound = omega arith
cause_len cause.Denied = omega arith
cause_len cause.Broken = omega arith
cause_len cause.Memory = omega arith
cause_len cause.Other = omega arith

-- the first word and the last, with a space
held_len : (w : What) → HoldsBytes w → piece_len w ≤ 4096 → length (kind_text w) + behind_len (held_text w) ≤ 8196
held_len (what.Out []) bytes few = omega arith
held_len (what.Out (b ∷ bs)) bytes few = let twice = length-encode_with lower_digits (b ∷ bs) in omega (arith, few)
held_len what.Eof bytes few = omega arith
held_len (what.ReadFail c) bytes few = omega (arith, cause_len c)
held_len (what.Answer answer.Ok) bytes few = omega arith
held_len (what.Answer (answer.Fail c)) bytes few = omega (arith, cause_len c)
held_len (what.Answer (answer.Exit n)) bytes few =
    let small : n < 256 = bytes in
    let short = length-decimal-le 3 n (omega arith) (omega arith) (omega arith) in
    omega arith
held_len (what.Answer answer.Killed) bytes few = omega arith

-- the longest line, less what is in it besides the child's number
child_len : (nums : ChildNumbers) (c : ℕ) → c ≤ most_child nums → length (decimal c) + 8217 ≤ longest nums
child_len To16 c le = let digits = length-decimal-le 2 c (omega arith) (omega (arith, le)) (omega (arith, le)) in omega arith
child_len To999 c le = let digits = length-decimal-le 3 c (omega arith) (omega (arith, le)) (omega (arith, le)) in omega arith

pub long_enough : (nums : ChildNumbers) → 8219 ≤ longest nums
long_enough To16 = omega arith
long_enough To999 = omega arith

pub line_short : (nums : ChildNumbers) (e : HallEvent) → IsTrue (fits nums e) → IsOfBytes e → length (line_of e) ≤ longest nums
line_short nums (hall.Tick m) fit bytes =
    let le : m ≤ 9000000000000000 = le_said m 9000000000000000 fit in
    let digits = length-decimal-le 16 m (omega arith) (omega arith) (omega arith) in
    let whole = joined_len (codes "tick") (decimal m ∷ []) in
    omega (arith, long_enough nums)
line_short nums (hall.Child s c m w) fit bytes =
    let f = fit_child nums s c m w fit in
    let script = length-decimal-le 2 s (omega arith) (omega (arith, f.script_high)) (omega (arith, f.script_high)) in
    let child = child_len nums c f.child_high in
    let moment = length-decimal-le 16 m (omega arith) (omega (arith, f.moment_high)) (omega (arith, f.moment_high)) in
    let ends = held_len w bytes f.few in
    let whole = joined_len (kind_text w) (decimal s ∷ decimal c ∷ decimal m ∷ held_text w) in
    omega arith

none_empty : (ws : List (List ℕ)) → AllByRecursion (λ w. 0 < length w) ws → any_empty ws ≡ false
none_empty [] h = refl
none_empty (w ∷ ws) h = neither (length w == 0) (any_empty ws) (full w h.0) (none_empty ws h.1)
  where
    full : (v : List ℕ) → 0 < length v → (length v == 0) ≡ false
    full v some = grind (arith, nat_tests)

    neither : (p q : Bool) → p ≡ false → q ≡ false → (p || q) ≡ false
    neither true q hp hq = hp
    neither false q hp hq = hq

full_kind : (w : What) → 0 < length (kind_text w)
full_kind (what.Out piece) = omega arith
full_kind what.Eof = omega arith
full_kind (what.ReadFail c) = omega arith
full_kind (what.Answer answer.Ok) = omega arith
full_kind (what.Answer (answer.Fail c)) = omega arith
full_kind (what.Answer (answer.Exit n)) = omega arith
full_kind (what.Answer answer.Killed) = omega arith

full_cause : (c : Cause) → 0 < length (cause_text c)
full_cause cause.NotFound = omega arith
full_cause cause.Denied = omega arith
full_cause cause.Broken = omega arith
full_cause cause.Memory = omega arith
full_cause cause.Other = omega arith

full_held : (w : What) → HoldsBytes w → AllByRecursion (λ v. 0 < length v) (held_text w)
full_held (what.Out []) bytes = (omega arith, tt)
full_held (what.Out (b ∷ bs)) bytes = (let twice = length-encode_with lower_digits (b ∷ bs) in omega arith, tt)
full_held what.Eof bytes = tt
full_held (what.ReadFail c) bytes = (full_cause c, tt)
full_held (what.Answer answer.Ok) bytes = tt
full_held (what.Answer (answer.Fail c)) bytes = (full_cause c, tt)
full_held (what.Answer (answer.Exit n)) bytes = (decimal_nonempty n (let small : n < 256 = bytes in omega arith), tt)
full_held (what.Answer answer.Killed) bytes = tt

stamp_meant : (nums : ChildNumbers) (n s c m : ℕ) (w : What) → Fit nums s c m w → stamp_of nums n (decimal s) (decimal c) (decimal m) ≡ Ok (record { script = s; child = c; moment = m })
stamp_meant nums n s c m w f =
    ap (λ (r : Result ℕ LogFault). r >>= λ script. number_within n (decimal c) (least_child nums) (most_child nums) (fault.NoSuchChild n) >>= λ child. moment_of n (decimal m) >>= λ moment. Ok (record { script = script; child = child; moment = moment }))
    (within_meant n 1 64 (fault.NoSuchScript n) s f.script_low f.script_high (omega (arith, f.script_high)))
    ∙ ap (λ (r : Result ℕ LogFault). r >>= λ child. moment_of n (decimal m) >>= λ moment. Ok (record { script = s; child = child; moment = moment }))
    (within_meant n (least_child nums) (most_child nums) (fault.NoSuchChild n) c f.child_low f.child_high (omega (arith, child_small nums c f.child_high)))
    ∙ ap (λ (r : Result ℕ LogFault). r >>= λ moment. Ok (record { script = s; child = c; moment = moment }))
    (within_meant n 0 9000000000000000 (fault.Number n) m (omega arith) f.moment_high (omega (arith, f.moment_high)))

cause_meant : (c : Cause) → cause_of (cause_text c) ≡ Some c
cause_meant cause.NotFound = refl
cause_meant cause.Denied = refl
cause_meant cause.Broken = refl
cause_meant cause.Memory = refl
cause_meant cause.Other = refl

-- the event of a child, from its stamp
child_meant : (nums : ChildNumbers) (n : ℕ) (s c m : List ℕ) (st : Stamp) (w : What) → HoldsBytes w → piece_len w ≤ 4096 → stamp_of nums n s c m ≡ Ok st → event_of nums n (kind_text w ∷ s ∷ c ∷ m ∷ held_text w) ≡ Ok (hall.Child st.script st.child st.moment w)
child_meant nums n s c m st (what.Out piece) bytes few is =
    ap (λ (r : Result Stamp LogFault). stamped r (piece_of n (hex_text piece) >>= λ p. Ok (what.Out p))) is
    ∙ ap (λ (r : Result (List ℕ) LogFault). stamped (Ok st) (r >>= λ p. Ok (what.Out p))) (piece_meant n piece bytes few)
child_meant nums n s c m st what.Eof bytes few is = ap (λ (r : Result Stamp LogFault). stamped r (Ok what.Eof)) is
child_meant nums n s c m st (what.ReadFail d) bytes few is =
    ap (λ (o : Option Cause). or_fault (fault.Shape n) (what_failed (codes "fail") o) >>= λ w. stamped (stamp_of nums n s c m) (Ok w)) (cause_meant d)
    ∙ ap (λ (r : Result Stamp LogFault). stamped r (Ok (what.ReadFail d))) is
child_meant nums n s c m st (what.Answer answer.Ok) bytes few is = ap (λ (r : Result Stamp LogFault). stamped r (Ok (what.Answer answer.Ok))) is
child_meant nums n s c m st (what.Answer (answer.Fail d)) bytes few is =
    ap (λ (o : Option Cause). or_fault (fault.Shape n) (what_failed (codes "bad") o) >>= λ w. stamped (stamp_of nums n s c m) (Ok w)) (cause_meant d)
    ∙ ap (λ (r : Result Stamp LogFault). stamped r (Ok (what.Answer (answer.Fail d)))) is
child_meant nums n s c m st (what.Answer (answer.Exit k)) bytes few is =
    let small : k < 256 = bytes in
    ap (λ (r : Result Stamp LogFault). stamped r (number_within n (decimal k) 0 255 (fault.Number n) >>= λ status. Ok (what.Answer (answer.Exit status)))) is
    ∙ ap (λ (r : Result ℕ LogFault). stamped (Ok st) (r >>= λ status. Ok (what.Answer (answer.Exit status)))) (within_meant n 0 255 (fault.Number n) k (omega arith) (omega arith) (omega arith))
child_meant nums n s c m st (what.Answer answer.Killed) bytes few is = ap (λ (r : Result Stamp LogFault). stamped r (Ok (what.Answer answer.Killed))) is

fields_meant : (nums : ChildNumbers) (n : ℕ) (e : HallEvent) → IsTrue (fits nums e) → IsOfBytes e → fields_event nums n (fields_of e) ≡ Ok e
fields_meant nums n (hall.Tick m) fit bytes =
    let le : m ≤ 9000000000000000 = le_said m 9000000000000000 fit in
    let full : any_empty (fields_of (hall.Tick m)) ≡ false = none_empty (fields_of (hall.Tick m)) (omega arith, (decimal_nonempty m (omega arith), tt)) in
    ap (λ (t : Bool). if t then Err (fault.Shape n) else event_of nums n (fields_of (hall.Tick m))) full
    ∙ ap (λ (r : Result ℕ LogFault). r >>= λ moment. Ok (hall.Tick moment)) (within_meant n 0 9000000000000000 (fault.Number n) m (omega arith) le (omega arith))
fields_meant nums n (hall.Child s c m w) fit bytes =
    let f = fit_child nums s c m w fit in
    let st : Stamp = record { script = s; child = c; moment = m } in
    let full : any_empty (fields_of (hall.Child s c m w)) ≡ false =
    none_empty (fields_of (hall.Child s c m w)) (
      full_kind w,
      (decimal_nonempty s (omega (arith, f.script_high)), (decimal_nonempty c (omega (arith, child_small nums c f.child_high)), (decimal_nonempty m (omega (arith, f.moment_high)), full_held w bytes))),
    ) in
    ap (λ (t : Bool). if t then Err (fault.Shape n) else event_of nums n (fields_of (hall.Child s c m w))) full
    ∙ child_meant nums n (decimal s) (decimal c) (decimal m) st w bytes f.few (stamp_meant nums n s c m w f)

pub fields_parts : (e : HallEvent) → ArePlain (fields_of e) → parts 32 (line_of e) ≡ fields_of e
fields_parts (hall.Tick m) plain = parts_joined (codes "tick") (decimal m ∷ []) plain
fields_parts (hall.Child s c m w) plain = parts_joined (kind_text w) (decimal s ∷ decimal c ∷ decimal m ∷ held_text w) plain

pub not_long : (most k : ℕ) → k ≤ most → nat_lt most k ≡ false
not_long most k le = grind (arith, nat_tests)

pub line_meant : (nums : ChildNumbers) (n : ℕ) (e : HallEvent) → IsTrue (fits nums e) → IsOfBytes e → line_event nums n (line_of e) ≡ Ok e
line_meant nums n e fit bytes =
    ap (λ (t : Bool). if t then Err (fault.TooLong n) else fields_event nums n (parts 32 (line_of e))) (not_long (longest nums) (length (line_of e)) (line_short nums e fit bytes))
    ∙ ap (fields_event nums n) (fields_parts e (plain_fields nums e fit bytes))
    ∙ fields_meant nums n e fit bytes
