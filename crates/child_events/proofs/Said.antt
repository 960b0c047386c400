-- What the fields of a line say is the event whose fields they are.
use Rattle.std.proofs.Common.{◌≡◌, ℕ, ◌<◌, ◌≤◌, List, [], ◌∷◌, length, Bool, true, false, ◌&&◌, ◌||◌, Option, Some, None, Result, Ok, Err, refl, sym, ap, subst, ◌∙◌, arith}
use Rattle.std.specs.Prelude.{◌==◌, if◌then◌else◌, nat_le, nat_lt, codes, IsTrue}
use Rattle.std.specs.Fmt.{decimal}
use Rattle.std.specs.Str.{bytes_eq}
use Rattle.std.proofs.lemmas.Bool.Decides.{nat_tests}
use Rattle.std.proofs.lemmas.Slice.Eq.{bytes_eq-Decides}
use Rattle.child_events.specs.declared.child_numbers.ChildNumbers.{ChildNumbers}
use Rattle.child_events.specs.declared.event.Cause.{Cause}
use Rattle.child_events.specs.declared.event.Cause.TheVariants as cause
use Rattle.child_events.specs.declared.event.Answer.TheVariants as answer
use Rattle.child_events.specs.declared.event.What.{What}
use Rattle.child_events.specs.declared.event.What.TheVariants as what
use Rattle.child_events.specs.declared.event.HallEvent.{HallEvent}
use Rattle.child_events.specs.declared.event.HallEvent.TheVariants as hall
use Rattle.child_events.specs.declared.fields.Stamp.{Stamp}
use Rattle.child_events.specs.declared.faults.LogFault.{LogFault}
use Rattle.child_events.specs.declared.faults.LogFault.TheVariants as fault
use Rattle.child_events.specs.Log.{least_child, most_child, longest, cause_text, kind_text, held_text, fields_of, joined, line_of, piece_len, fits, HoldsBytes, IsOfBytes}
use Rattle.child_events.specs.Reading.{parts, or_fault, ◌>>=◌, number_within, piece_of, cause_of, what_alone, what_failed, moment_of, stamp_of, stamped, failed_event, held_event, event_of, any_empty, fields_event, line_event}
use Rattle.child_events.proofs.Decimals.{Within, within_said}
use Rattle.child_events.proofs.Hexes.{piece_said}
use Rattle.child_events.proofs.Plain.{joined-parts}

pub is_word : (w name : List ℕ) → bytes_eq w name ≡ true → w ≡ name
is_word w name h = (bytes_eq-Decides w name).0 h

cause_said : (x : List ℕ) (c : Cause) → cause_of x ≡ Some c → x ≡ cause_text c
cause_said x c h =
    by_tests (bytes_eq x (codes "notfound")) (bytes_eq x (codes "denied")) (bytes_eq x (codes "broken")) (bytes_eq x (codes "memory")) (bytes_eq x (codes "other")) refl refl refl refl refl h
  where
    named : (d : Cause) → x ≡ cause_text d → Some d ≡ Some c → x ≡ cause_text c
    named d is said = let same : d ≡ c = cc in is ∙ ap cause_text same

    by_tests : (p q r s t : Bool) → bytes_eq x (codes "notfound") ≡ p → bytes_eq x (codes "denied") ≡ q → bytes_eq x (codes "broken") ≡ r → bytes_eq x (codes "memory") ≡ s → bytes_eq x (codes "other") ≡ t →
        (if p then Some cause.NotFound else if q then Some cause.Denied else if r then Some cause.Broken else if s then Some cause.Memory else if t then Some cause.Other else None) ≡ Some c →
        x ≡ cause_text c
    by_tests true q r s t hp hq hr hs ht said = named cause.NotFound (is_word x (codes "notfound") hp) said
    by_tests false true r s t hp hq hr hs ht said = named cause.Denied (is_word x (codes "denied") hq) said
    by_tests false false true s t hp hq hr hs ht said = named cause.Broken (is_word x (codes "broken") hr) said
    by_tests false false false true t hp hq hr hs ht said = named cause.Memory (is_word x (codes "memory") hs) said
    by_tests false false false false true hp hq hr hs ht said = named cause.Other (is_word x (codes "other") ht) said
    by_tests false false false false false hp hq hr hs ht said = absurd (cc)

-- the first word and the last are those of what the event brings, which is within the limits
record Brings (k : List ℕ) (ws : List (List ℕ)) (w : What) : Type 0 where
  kind : k ≡ kind_text w
  held : ws ≡ held_text w
  bytes : HoldsBytes w
  few : piece_len w ≤ 4096

alone_said : (k : List ℕ) (w : What) → what_alone k ≡ Some w → Brings k [] w
alone_said k w h = by_tests (bytes_eq k (codes "ok")) (bytes_eq k (codes "end")) (bytes_eq k (codes "killed")) refl refl refl h
  where
    named : (v : What) → Brings k [] v → Some v ≡ Some w → Brings k [] w
    named v is said = let same : v ≡ w = cc in subst (Brings k []) same is

    by_tests : (p q r : Bool) → bytes_eq k (codes "ok") ≡ p → bytes_eq k (codes "end") ≡ q → bytes_eq k (codes "killed") ≡ r →
        (if p then Some (what.Answer answer.Ok) else if q then Some what.Eof else if r then Some (what.Answer answer.Killed) else None) ≡ Some w → Brings k [] w
    by_tests true q r hp hq hr said = named (what.Answer answer.Ok) (record { kind = is_word k (codes "ok") hp; held = refl; bytes = tt; few = omega arith }) said
    by_tests false true r hp hq hr said = named what.Eof (record { kind = is_word k (codes "end") hq; held = refl; bytes = tt; few = omega arith }) said
    by_tests false false true hp hq hr said = named (what.Answer answer.Killed) (record { kind = is_word k (codes "killed") hr; held = refl; bytes = tt; few = omega arith }) said
    by_tests false false false hp hq hr said = absurd (cc)

failed_said : (k x : List ℕ) (o : Option Cause) (w : What) → cause_of x ≡ o → what_failed k o ≡ Some w → Brings k (x ∷ []) w
failed_said k x None w is h = absurd (cc)
failed_said k x (Some c) w is h = by_tests (bytes_eq k (codes "fail")) (bytes_eq k (codes "bad")) refl refl h
  where
    held_is : x ∷ [] ≡ cause_text c ∷ []
    held_is = ap (λ (y : List ℕ). y ∷ []) (cause_said x c is)

    named : (v : What) → Brings k (x ∷ []) v → Some v ≡ Some w → Brings k (x ∷ []) w
    named v brings said = let same : v ≡ w = cc in subst (Brings k (x ∷ [])) same brings

    by_tests : (p q : Bool) → bytes_eq k (codes "fail") ≡ p → bytes_eq k (codes "bad") ≡ q →
        (if p then Some (what.ReadFail c) else if q then Some (what.Answer (answer.Fail c)) else None) ≡ Some w → Brings k (x ∷ []) w
    by_tests true q hp hq said = named (what.ReadFail c) (record { kind = is_word k (codes "fail") hp; held = held_is; bytes = tt; few = omega arith }) said
    by_tests false true hp hq said = named (what.Answer (answer.Fail c)) (record { kind = is_word k (codes "bad") hq; held = held_is; bytes = tt; few = omega arith }) said
    by_tests false false hp hq said = absurd (cc)

record Stamps (nums : ChildNumbers) (s c m : List ℕ) (st : Stamp) : Type 0 where
  script : Within s 1 64 st.script
  child : Within c (least_child nums) (most_child nums) st.child
  moment : Within m 0 9000000000000000 st.moment

stamp_said : (nums : ChildNumbers) (n : ℕ) (s c m : List ℕ) (st : Stamp) → stamp_of nums n s c m ≡ Ok st → Stamps nums s c m st
stamp_said nums n s c m st h = by_cases (number_within n s 1 64 (fault.NoSuchScript n)) (number_within n c (least_child nums) (most_child nums) (fault.NoSuchChild n)) (moment_of n m) refl refl refl h
  where
    by_cases : (p q r : Result ℕ LogFault) → number_within n s 1 64 (fault.NoSuchScript n) ≡ p → number_within n c (least_child nums) (most_child nums) (fault.NoSuchChild n) ≡ q → moment_of n m ≡ r →
        (p >>= λ script. q >>= λ child. r >>= λ moment. Ok (record { script = script; child = child; moment = moment })) ≡ Ok st → Stamps nums s c m st
    by_cases (Ok i) (Ok j) (Ok k) hp hq hr said =
        let made : Stamp = record { script = i; child = j; moment = k } in
        let same : made ≡ st = cc in
        subst (Stamps nums s c m) same (record {
          script = within_said n s 1 64 (fault.NoSuchScript n) i hp;
          child = within_said n c (least_child nums) (most_child nums) (fault.NoSuchChild n) j hq;
          moment = within_said n m 0 9000000000000000 (fault.Number n) k hr;
        })
    by_cases (Ok i) (Ok j) (Err f) hp hq hr said = absurd (cc)
    by_cases (Ok i) (Err f) r hp hq hr said = absurd (cc)
    by_cases (Err f) q r hp hq hr said = absurd (cc)

-- the fields are an event's, which is within the limits
pub record IsEvent (nums : ChildNumbers) (fields : List (List ℕ)) (e : HallEvent) : Type 0 where
  pub same : fields ≡ fields_of e
  pub fit : IsTrue (fits nums e)
  pub bytes : IsOfBytes e

six_true : (a b c d e f : Bool) → a ≡ true → b ≡ true → c ≡ true → d ≡ true → e ≡ true → f ≡ true → (a && b && c && d && e && f) ≡ true
six_true true true true true true true ha hb hc hd he hf = refl
six_true true true true true true false ha hb hc hd he hf = absurd (cc)
six_true true true true true false f ha hb hc hd he hf = absurd (cc)
six_true true true true false e f ha hb hc hd he hf = absurd (cc)
six_true true true false d e f ha hb hc hd he hf = absurd (cc)
six_true true false c d e f ha hb hc hd he hf = absurd (cc)
six_true false b c d e f ha hb hc hd he hf = absurd (cc)

le_true : (a b : ℕ) → a ≤ b → nat_le a b ≡ true
le_true a b h = grind (arith, nat_tests)

child_is : (nums : ChildNumbers) (k s c m : List ℕ) (ws : List (List ℕ)) (st : Stamp) (w : What) → Stamps nums s c m st → Brings k ws w → IsEvent nums (k ∷ s ∷ c ∷ m ∷ ws) (hall.Child st.script st.child st.moment w)
child_is nums k s c m ws st w stamps brings = record {
  same =
      ap (λ (x : List ℕ). x ∷ s ∷ c ∷ m ∷ ws) brings.kind
      ∙ ap (λ (x : List ℕ). kind_text w ∷ x ∷ c ∷ m ∷ ws) stamps.script.text
      ∙ ap (λ (x : List ℕ). kind_text w ∷ decimal st.script ∷ x ∷ m ∷ ws) stamps.child.text
      ∙ ap (λ (x : List ℕ). kind_text w ∷ decimal st.script ∷ decimal st.child ∷ x ∷ ws) stamps.moment.text
      ∙ ap (λ (xs : List (List ℕ)). kind_text w ∷ decimal st.script ∷ decimal st.child ∷ decimal st.moment ∷ xs) brings.held;
  fit =
      six_true (nat_le 1 st.script) (nat_le st.script 64) (nat_le (least_child nums) st.child) (nat_le st.child (most_child nums)) (nat_le st.moment 9000000000000000) (nat_le (piece_len w) 4096)
      (le_true 1 st.script stamps.script.above) (le_true st.script 64 stamps.script.below) (le_true (least_child nums) st.child stamps.child.above) (le_true st.child (most_child nums) stamps.child.below)
      (le_true st.moment 9000000000000000 stamps.moment.below) (le_true (piece_len w) 4096 brings.few);
  bytes = brings.bytes;
}

-- a line of a child
stamped_said : (nums : ChildNumbers) (n : ℕ) (k s c m : List ℕ) (ws : List (List ℕ)) (held : Result What LogFault) (e : HallEvent) → ((w : What) → held ≡ Ok w → Brings k ws w) →
    stamped (stamp_of nums n s c m) held ≡ Ok e → IsEvent nums (k ∷ s ∷ c ∷ m ∷ ws) e
stamped_said nums n k s c m ws held e brings h = by_cases (stamp_of nums n s c m) held refl refl h
  where
    by_cases : (r : Result Stamp LogFault) (v : Result What LogFault) → stamp_of nums n s c m ≡ r → held ≡ v → stamped r v ≡ Ok e → IsEvent nums (k ∷ s ∷ c ∷ m ∷ ws) e
    by_cases (Ok st) (Ok w) hr hv said =
        let same : hall.Child st.script st.child st.moment w ≡ e = cc in
        subst (IsEvent nums (k ∷ s ∷ c ∷ m ∷ ws)) same (child_is nums k s c m ws st w (stamp_said nums n s c m st hr) (brings w hv))
    by_cases (Ok st) (Err f) hr hv said = absurd (cc)
    by_cases (Err f) v hr hv said = absurd (cc)

-- a line whose shape was looked at first
shaped_said : (nums : ChildNumbers) (n : ℕ) (k s c m : List ℕ) (ws : List (List ℕ)) (o : Option What) (e : HallEvent) → ((w : What) → o ≡ Some w → Brings k ws w) →
    (or_fault (fault.Shape n) o >>= λ w. stamped (stamp_of nums n s c m) (Ok w)) ≡ Ok e → IsEvent nums (k ∷ s ∷ c ∷ m ∷ ws) e
shaped_said nums n k s c m ws None e brings h = absurd (cc)
shaped_said nums n k s c m ws (Some w) e brings h = stamped_said nums n k s c m ws (Ok w) e (λ v is. brings v (let same : w ≡ v = cc in ap Some same)) h

out_said : (n : ℕ) (k x : List ℕ) → k ≡ codes "out" → 0 < length x → (w : What) → (piece_of n x >>= λ piece. Ok (what.Out piece)) ≡ Ok w → Brings k (x ∷ []) w
out_said n k x is some w h = by_cases (piece_of n x) refl h
  where
    by_cases : (r : Result (List ℕ) LogFault) → piece_of n x ≡ r → (r >>= λ piece. Ok (what.Out piece)) ≡ Ok w → Brings k (x ∷ []) w
    by_cases (Err f) hr said = absurd (cc)
    by_cases (Ok piece) hr said =
        let holds = piece_said n x piece some hr in
        let same : what.Out piece ≡ w = cc in
        subst (Brings k (x ∷ [])) same (record { kind = is; held = ap (λ (y : List ℕ). y ∷ []) holds.same; bytes = holds.bytes_fit; few = holds.few })

exit_said : (n : ℕ) (k x : List ℕ) → k ≡ codes "exit" → (w : What) → (number_within n x 0 255 (fault.Number n) >>= λ status. Ok (what.Answer (answer.Exit status))) ≡ Ok w → Brings k (x ∷ []) w
exit_said n k x is w h = by_cases (number_within n x 0 255 (fault.Number n)) refl h
  where
    by_cases : (r : Result ℕ LogFault) → number_within n x 0 255 (fault.Number n) ≡ r → (r >>= λ status. Ok (what.Answer (answer.Exit status))) ≡ Ok w → Brings k (x ∷ []) w
    by_cases (Err f) hr said = absurd (cc)
    by_cases (Ok status) hr said =
        let number = within_said n x 0 255 (fault.Number n) status hr in
        let same : what.Answer (answer.Exit status) ≡ w = cc in
        let small : status < 256 = omega (arith, number.below) in
        subst (Brings k (x ∷ [])) same (record { kind = is; held = ap (λ (y : List ℕ). y ∷ []) number.text; bytes = small; few = omega arith })

held_said : (nums : ChildNumbers) (n : ℕ) (k s c m x : List ℕ) (e : HallEvent) → 0 < length x → held_event n k x (stamp_of nums n s c m) ≡ Ok e → IsEvent nums (k ∷ s ∷ c ∷ m ∷ x ∷ []) e
held_said nums n k s c m x e some h = by_tests (bytes_eq k (codes "out")) (bytes_eq k (codes "exit")) refl refl h
  where
    by_tests : (p q : Bool) → bytes_eq k (codes "out") ≡ p → bytes_eq k (codes "exit") ≡ q →
        (if p then stamped (stamp_of nums n s c m) (piece_of n x >>= λ piece. Ok (what.Out piece))
        else if q then stamped (stamp_of nums n s c m) (number_within n x 0 255 (fault.Number n) >>= λ status. Ok (what.Answer (answer.Exit status)))
        else failed_event n k x (stamp_of nums n s c m)) ≡ Ok e →
        IsEvent nums (k ∷ s ∷ c ∷ m ∷ x ∷ []) e
    by_tests true q hp hq said = stamped_said nums n k s c m (x ∷ []) (piece_of n x >>= λ piece. Ok (what.Out piece)) e (out_said n k x (is_word k (codes "out") hp) some) said
    by_tests false true hp hq said = stamped_said nums n k s c m (x ∷ []) (number_within n x 0 255 (fault.Number n) >>= λ status. Ok (what.Answer (answer.Exit status))) e (exit_said n k x (is_word k (codes "exit") hq)) said
    by_tests false false hp hq said = shaped_said nums n k s c m (x ∷ []) (what_failed k (cause_of x)) e (λ w is. failed_said k x (cause_of x) w refl is) said

tick_said : (nums : ChildNumbers) (n : ℕ) (k m : List ℕ) (e : HallEvent) → event_of nums n (k ∷ m ∷ []) ≡ Ok e → IsEvent nums (k ∷ m ∷ []) e
tick_said nums n k m e h = by_cases (bytes_eq k (codes "tick")) (moment_of n m) refl refl h
  where
    by_cases : (t : Bool) (r : Result ℕ LogFault) → bytes_eq k (codes "tick") ≡ t → moment_of n m ≡ r → (if t then (r >>= λ moment. Ok (hall.Tick moment)) else Err (fault.Shape n)) ≡ Ok e → IsEvent nums (k ∷ m ∷ []) e
    by_cases false r ht hr said = absurd (cc)
    by_cases true (Err f) ht hr said = absurd (cc)
    by_cases true (Ok moment) ht hr said =
        let number = within_said n m 0 9000000000000000 (fault.Number n) moment hr in
        let same : hall.Tick moment ≡ e = cc in
        subst (IsEvent nums (k ∷ m ∷ [])) same (record {
          same = ap (λ (x : List ℕ). x ∷ m ∷ []) (is_word k (codes "tick") ht) ∙ ap (λ (x : List ℕ). codes "tick" ∷ x ∷ []) number.text;
          fit = le_true moment 9000000000000000 number.below;
          bytes = tt;
        })

last_full : (p q r s t : Bool) → (p || (q || (r || (s || (t || false))))) ≡ false → t ≡ false
last_full false false false false t h = by_test t h
  where
    by_test : (u : Bool) → (u || false) ≡ false → u ≡ false
    by_test true h = absurd (cc)
    by_test false h = refl
last_full false false false true t h = absurd (cc)
last_full false false true s t h = absurd (cc)
last_full false true r s t h = absurd (cc)
last_full true q r s t h = absurd (cc)

full_some : (x : List ℕ) → (length x == 0) ≡ false → 0 < length x
full_some x h = grind (arith, nat_tests)

event_said : (nums : ChildNumbers) (n : ℕ) (fields : List (List ℕ)) (e : HallEvent) → any_empty fields ≡ false → event_of nums n fields ≡ Ok e → IsEvent nums fields e
event_said nums n [] e full h = absurd (cc)
event_said nums n (k ∷ []) e full h = absurd (cc)
event_said nums n (k ∷ m ∷ []) e full h = tick_said nums n k m e h
event_said nums n (k ∷ s ∷ m ∷ []) e full h = absurd (cc)
event_said nums n (k ∷ s ∷ c ∷ m ∷ []) e full h = shaped_said nums n k s c m [] (what_alone k) e (alone_said k) h
event_said nums n (k ∷ s ∷ c ∷ m ∷ x ∷ []) e full h = held_said nums n k s c m x e (full_some x (last_full (length k == 0) (length s == 0) (length c == 0) (length m == 0) (length x == 0) full)) h
event_said nums n (k ∷ s ∷ c ∷ m ∷ x ∷ y ∷ more) e full h = absurd (cc)

pub fields_said : (nums : ChildNumbers) (n : ℕ) (fields : List (List ℕ)) (e : HallEvent) → fields_event nums n fields ≡ Ok e → IsEvent nums fields e
fields_said nums n fields e h = by_test (any_empty fields) refl h
  where
    by_test : (t : Bool) → any_empty fields ≡ t → (if t then Err (fault.Shape n) else event_of nums n fields) ≡ Ok e → IsEvent nums fields e
    by_test true full said = absurd (cc)
    by_test false full said = event_said nums n fields e full said

-- a line that reads as an event is its line
pub record IsLine (nums : ChildNumbers) (line : List ℕ) (e : HallEvent) : Type 0 where
  pub same : line ≡ line_of e
  pub fit : IsTrue (fits nums e)
  pub bytes : IsOfBytes e

pub line_said : (nums : ChildNumbers) (n : ℕ) (line : List ℕ) (e : HallEvent) → line_event nums n line ≡ Ok e → IsLine nums line e
line_said nums n line e h = by_test (nat_lt (longest nums) (length line)) h
  where
    by_test : (t : Bool) → (if t then Err (fault.TooLong n) else fields_event nums n (parts 32 line)) ≡ Ok e → IsLine nums line e
    by_test true said = absurd (cc)
    by_test false said =
        let is = fields_said nums n (parts 32 line) e said in
        record { same = sym (joined-parts 32 line) ∙ ap (joined 32) is.same; fit = is.fit; bytes = is.bytes }
