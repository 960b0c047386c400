-- A log that is judged first.
use Rattle.std.proofs.Common.{◌≡◌, ℕ, zero, suc, ◌+◌, ◌-◌, ◌<◌, ◌≤◌, List, [], ◌∷◌, ◌++◌, length, take, drop, slice_index, Bool, true, false, not, ◌&&◌, Result, Ok, Err, refl, sym, ap, subst, ◌∙◌, add-one, append-nil, arith}
use Rattle.std.specs.Prelude.{min, ◌==◌, ◌%◌, nat_lt, codes, if◌then◌else◌, IfOk, IfErr, IsOk}
use Rattle.std.specs.Str.{bytes_eq}
use Rattle.std.proofs.lemmas.Bool.Decides.{nat_tests}
use Rattle.std.proofs.lemmas.Bool.{and_parts}
use Rattle.hex.specs.declared.error.FromHexError.{FromHexError}
use Rattle.hex.specs.Hex.{decode_of}
use Rattle.hex.proofs.HexLemmas.{decode_of-even}
use Rattle.child_events.specs.declared.child_numbers.ChildNumbers.{ChildNumbers}
use Rattle.child_events.specs.declared.event.HallEvent.{HallEvent}
use Rattle.child_events.specs.declared.faults.LogFault.{LogFault}
use Rattle.child_events.specs.declared.faults.LogFault.TheVariants as fault
use Rattle.child_events.specs.declared.version.Version.{Version}
use Rattle.child_events.specs.Log.{LogText}
use Rattle.child_events.specs.Reading.{parts, is_lower_hex_digit, all_lower_hex, piece_of, decoded, ◌>>=◌, line_event, numbers_in, lines_events, log_events, fault_in, Refused}
use Rattle.child_events.specs.Judging.{judged, lines_read, events_in, Judges, SaysLog, front_of}
use Rattle.child_events.proofs.Parts.{Without, parts_whole}
use Rattle.child_events.proofs.Hexes.{pairs_decode}
use Rattle.child_events.proofs.Lines.{front_none, line_read}
use Rattle.child_events.proofs.Whole.{log_said, log_meant}

-- no digit is a space
no_space : (d : ℕ) → is_lower_hex_digit d ≡ true → (d == 32) ≡ false
no_space d lower = grind (arith, nat_tests)

without_space : (w : List ℕ) → all_lower_hex w ≡ true → Without 32 w
without_space [] lower = tt
without_space (d ∷ w) lower =
    let both = and_parts (is_lower_hex_digit d) (all_lower_hex w) lower in
    (no_space d both.0, without_space w both.1)

pub lower_whole : (w : List ℕ) → all_lower_hex w ≡ true → parts 32 w ≡ w ∷ []
lower_whole w lower = parts_whole 32 w (without_space w lower)

is_false : (t : Bool) → (t ≡ true → ⊥) → t ≡ false
is_false true h = absurd (h refl)
is_false false h = refl

-- where no byte before a place is the separator
pub without_before : (sep i : ℕ) (bytes : List ℕ) → ((k : ℕ) → k < i → (slice_index bytes k == sep) ≡ true → ⊥) → Without sep (take i bytes)
without_before sep zero bytes h = tt
without_before sep (suc i) [] h = tt
without_before sep (suc i) (b ∷ bs) h = (is_false (b == sep) (h 0 (omega arith)), without_before sep i bs (λ k lt. h (suc k) (omega (arith, lt))))

-- a piece whose digits were checked
pub piece_checked : (n : ℕ) (w : List ℕ) → bytes_eq w (codes "-") ≡ false → length w % 2 ≡ 0 → all_lower_hex w ≡ true → length w ≤ 8192 → Ok tt ≡ judged (piece_of n w)
piece_checked n w dash even lower short =
    by_tests (bytes_eq w (codes "-")) (length w % 2 == 0) (all_lower_hex w) (nat_lt 8192 (length w)) (decode_of w) dash (grind (arith, nat_tests)) lower (grind (arith, nat_tests))
    (subst (λ (r : Result (List ℕ) FromHexError). IsOk r) (sym (decode_of-even w even)) (pairs_decode 0 w lower even))
  where
    by_tests : (d e l g : Bool) (r : Result (List ℕ) FromHexError) → d ≡ false → e ≡ true → l ≡ true → g ≡ false → IsOk r →
        Ok tt ≡ judged (if d then Ok [] else if not (e && l) then Err (fault.Hex n) else if g then Err (fault.TooLong n) else decoded n r)
    by_tests true e l g r hd he hl hg ok = absurd (cc)
    by_tests false false l g r hd he hl hg ok = absurd (cc)
    by_tests false true false g r hd he hl hg ok = absurd (cc)
    by_tests false true true true r hd he hl hg ok = absurd (cc)
    by_tests false true true false (Ok bs) hd he hl hg ok = refl
    by_tests false true true false (Err f) hd he hl hg ok = absurd (cc)

-- what a judgement promises
pub judged_found : (bytes : List ℕ) (r : Result (List HallEvent) LogFault) → r ≡ log_events bytes → IfOk r (λ es. LogText bytes es)
judged_found bytes (Ok es) is = log_said bytes es (sym is)
judged_found bytes (Err f) is = tt

pub judged_refused : (bytes : List ℕ) (r : Result (List HallEvent) LogFault) → r ≡ log_events bytes → IfErr r (λ f. Refused bytes f)
judged_refused bytes (Ok es) is = tt
judged_refused bytes (Err f) is = (ap fault_in (sym is), λ es text. let e = log_meant bytes es text in cc)

pub says_log : (bytes : List ℕ) (said : Result (List HallEvent) LogFault) → log_events bytes ≡ said → SaysLog bytes said
says_log bytes (Ok es) is = judged_found bytes (Ok es) (sym is)
says_log bytes (Err f) is = judged_refused bytes (Err f) (sym is)

-- the events that so many lines are
lines_len : (nums : ChildNumbers) (n k : ℕ) (ws : List (List ℕ)) (es : List HallEvent) → lines_read nums n k ws ≡ Ok es → length es ≡ k
lines_len nums n zero ws es is = let e : [] ≡ es = cc in sym (ap length e)
lines_len nums n (suc k) [] es is = absurd (cc)
lines_len nums n (suc k) (w ∷ []) es is = absurd (cc)
lines_len nums n (suc k) (w ∷ x ∷ ws) es is = by_cases (line_event nums n w) (lines_read nums (n + 1) k (x ∷ ws)) (lines_len nums (n + 1) k (x ∷ ws)) is
  where
    by_cases : (r : Result HallEvent LogFault) (q : Result (List HallEvent) LogFault) → ((fs : List HallEvent) → q ≡ Ok fs → length fs ≡ k) → (r >>= λ e. q >>= λ fs. Ok (e ∷ fs)) ≡ Ok es → length es ≡ suc k
    by_cases (Ok e) (Ok fs) others h = let same : e ∷ fs ≡ es = cc in sym (ap length same) ∙ ap suc (others fs refl)
    by_cases (Ok e) (Err f) others h = absurd (cc)
    by_cases (Err f) q others h = absurd (cc)

pub events_len : (nums : ChildNumbers) (n k : ℕ) (ws : List (List ℕ)) → IsOk (lines_read nums n k ws) → length (events_in (lines_read nums n k ws)) ≡ k
events_len nums n k ws ok = by_cases (lines_read nums n k ws) refl ok
  where
    by_cases : (r : Result (List HallEvent) LogFault) → lines_read nums n k ws ≡ r → IsOk r → length (events_in r) ≡ k
    by_cases (Ok es) is ok = lines_len nums n k ws es is
    by_cases (Err f) is ok = absurd (cc)

-- a line more
read_more : (nums : ChildNumbers) (n k j : ℕ) (ws vs : List (List ℕ)) (w : List ℕ) (front : List HallEvent) (e : HallEvent) → j ≡ n + k → lines_read nums n k ws ≡ Ok front → drop k ws ≡ w ∷ vs → 0 < length vs → line_event nums j w ≡ Ok e → lines_read nums n (suc k) ws ≡ Ok (front ++ e ∷ [])
read_more nums n zero j [] vs w front e at read split some is = absurd (cc)
read_more nums n zero j (x ∷ []) [] w front e at read split some is = absurd (omega arith)
read_more nums n zero j (x ∷ []) (v ∷ vs) w front e at read split some is = absurd (cc)
read_more nums n zero j (x ∷ y ∷ ws) vs w front e at read split some is =
    let first : x ≡ w = cc in
    let none : [] ≡ front = cc in
    let number : n ≡ j = omega (arith, at) in
    ap (λ (r : Result HallEvent LogFault). r >>= λ e. Ok (e ∷ [])) (ap (line_event nums n) first ∙ ap (λ (i : ℕ). line_event nums i w) number ∙ is)
    ∙ ap (λ (es : List HallEvent). Ok (es ++ e ∷ [])) none
read_more nums n (suc k) j [] vs w front e at read split some is = absurd (cc)
read_more nums n (suc k) j (x ∷ []) vs w front e at read split some is = absurd (cc)
read_more nums n (suc k) j (x ∷ y ∷ ws) vs w front e at read split some is =
    by_cases (line_event nums n x) (lines_read nums (n + 1) k (y ∷ ws)) refl (λ front' read'. read_more nums (n + 1) k j (y ∷ ws) vs w front' e (omega (arith, at)) read' split some is) read
  where
    by_cases : (r : Result HallEvent LogFault) (q : Result (List HallEvent) LogFault) → line_event nums n x ≡ r →
        ((front' : List HallEvent) → q ≡ Ok front' → lines_read nums (n + 1) (suc k) (y ∷ ws) ≡ Ok (front' ++ e ∷ [])) →
        (r >>= λ e'. q >>= λ es. Ok (e' ∷ es)) ≡ Ok front → lines_read nums n (suc (suc k)) (x ∷ y ∷ ws) ≡ Ok (front ++ e ∷ [])
    by_cases (Ok e') (Ok es) first others h =
        let same : e' ∷ es ≡ front = cc in
        ap (λ (r : Result HallEvent LogFault). r >>= λ e'. lines_read nums (n + 1) (suc k) (y ∷ ws) >>= λ es. Ok (e' ∷ es)) first
        ∙ ap (λ (q : Result (List HallEvent) LogFault). q >>= λ es. Ok (e' ∷ es)) (others es refl)
        ∙ ap (λ (es : List HallEvent). Ok (es ++ e ∷ [])) same
    by_cases (Ok e') (Err f) first others h = absurd (cc)
    by_cases (Err f) q first others h = absurd (cc)

-- so many lines were judged from line n on, each of them an event, and these are left
pub record JudgedTo (v : Version) (n : ℕ) (bytes rest : List ℕ) (number seen : ℕ) : Type 0 where
  pub front : List HallEvent
  pub read : lines_read (numbers_in v) n seen (parts 10 bytes) ≡ Ok front
  pub left : drop seen (parts 10 bytes) ≡ parts 10 rest
  pub same : front_of front (lines_events v number (parts 10 rest)) ≡ lines_events v n (parts 10 bytes)
  pub numbered : number ≡ n + seen

pub judged_none : (v : Version) (n : ℕ) (bytes : List ℕ) → JudgedTo v n bytes bytes n 0
judged_none v n bytes = record { front = []; read = refl; left = refl; same = front_none (lines_events v n (parts 10 bytes)); numbered = omega arith }

drop_next : (k : ℕ) (ws vs : List (List ℕ)) (w : List ℕ) → drop k ws ≡ w ∷ vs → drop (suc k) ws ≡ vs
drop_next zero [] vs w h = absurd (cc)
drop_next zero (x ∷ ws) vs w h = cc
drop_next (suc k) [] vs w h = absurd (cc)
drop_next (suc k) (x ∷ ws) vs w h = drop_next k ws vs w h

is_event : (r : Result HallEvent LogFault) → Ok tt ≡ judged r → (e : HallEvent) × (r ≡ Ok e)
is_event (Ok e) h = (e, refl)
is_event (Err f) h = absurd (cc)

pub judged_more : (v : Version) (n : ℕ) (bytes rest line behind : List ℕ) (number seen : ℕ) → JudgedTo v n bytes rest number seen → parts 10 rest ≡ line ∷ parts 10 behind → 0 < length (parts 10 behind) → Ok tt ≡ judged (line_event (numbers_in v) number line) → JudgedTo v n bytes behind (number + 1) (seen + 1)
judged_more v n bytes rest line behind number seen j split some fine =
    let found = is_event (line_event (numbers_in v) number line) fine in
    record {
      front = j.front ++ found.0 ∷ [];
      read = rw add-one (read_more (numbers_in v) n seen number (parts 10 bytes) (parts 10 behind) line j.front found.0 j.numbered j.read (j.left ∙ split) some found.1);
      left = rw add-one (drop_next seen (parts 10 bytes) (parts 10 behind) line (j.left ∙ split));
      same = line_read v j.front number rest line behind (lines_events v n (parts 10 bytes)) split j.same found.0 found.1;
      numbered = omega (arith, j.numbered);
    }

pub judges : (v : Version) (n : ℕ) (bytes rest : List ℕ) (number seen : ℕ) (j : JudgedTo v n bytes rest number seen) → lines_events v n (parts 10 bytes) ≡ Ok (j.front ++ []) → Judges v n (parts 10 bytes) (Ok seen)
judges v n bytes rest number seen j is = (
  is ∙ ap Ok (append-nil j.front) ∙ sym j.read,
  subst (λ (r : Result (List HallEvent) LogFault). IsOk r) (sym j.read) refl,
)

pub is_fault : (r : Result HallEvent LogFault) (f : LogFault) → Err f ≡ judged r → r ≡ Err f
is_fault (Ok e) f h = absurd (cc)
is_fault (Err g) f h = cc

-- as many lines as were judged are the log's
pub judged_lines : (r q : Result (List HallEvent) LogFault) → r ≡ q → IsOk q → Ok (events_in q) ≡ r
judged_lines r (Ok es) same ok = sym same
judged_lines r (Err f) same ok = absurd (cc)

-- where an event is left, a line is
pub line_left : (nums : ChildNumbers) (n k : ℕ) (ws : List (List ℕ)) → 0 < length (events_in (lines_read nums n k ws)) → 0 < k
line_left nums n zero ws some = absurd (omega arith)
line_left nums n (suc k) ws some = omega arith

-- with a newline behind it
pub newline_left : (nums : ChildNumbers) (n k : ℕ) (w : List ℕ) → 0 < k → IsOk (lines_read nums n k (w ∷ [])) → ⊥
newline_left nums n zero w some ok = absurd (omega arith)
newline_left nums n (suc k) w some ok = absurd (cc)

pub record NextIs (nums : ChildNumbers) (n k : ℕ) (ws vs : List (List ℕ)) (e : HallEvent) : Type 0 where
  pub judged : IsOk (lines_read nums (n + 1) (k - 1) vs)
  pub events : events_in (lines_read nums n k ws) ≡ e ∷ events_in (lines_read nums (n + 1) (k - 1) vs)

next_at : (nums : ChildNumbers) (n k : ℕ) (w : List ℕ) (vs : List (List ℕ)) (e : HallEvent) → 0 < length vs → IsOk (lines_read nums n (suc k) (w ∷ vs)) → line_event nums n w ≡ Ok e → IsOk (lines_read nums (n + 1) k vs) × (events_in (lines_read nums n (suc k) (w ∷ vs)) ≡ e ∷ events_in (lines_read nums (n + 1) k vs))
next_at nums n k w [] e some ok is = absurd (omega arith)
next_at nums n k w (x ∷ vs) e some ok is =
    let found = by_cases (lines_read nums (n + 1) k (x ∷ vs)) (subst (λ (r : Result (List HallEvent) LogFault). IsOk r) whole ok) in
    (found.0, ap events_in whole ∙ found.1)
  where
    whole : lines_read nums n (suc k) (w ∷ x ∷ vs) ≡ (lines_read nums (n + 1) k (x ∷ vs) >>= λ es. Ok (e ∷ es))
    whole = ap (λ (r : Result HallEvent LogFault). r >>= λ e'. lines_read nums (n + 1) k (x ∷ vs) >>= λ es. Ok (e' ∷ es)) is

    by_cases : (q : Result (List HallEvent) LogFault) → IsOk (q >>= λ es. Ok (e ∷ es)) → IsOk q × (events_in (q >>= λ es. Ok (e ∷ es)) ≡ e ∷ events_in q)
    by_cases (Ok es) ok = (refl, refl)
    by_cases (Err f) ok = absurd (cc)

pub next_is : (nums : ChildNumbers) (n k : ℕ) (w : List ℕ) (ws vs : List (List ℕ)) (e : HallEvent) → ws ≡ w ∷ vs → 0 < length vs → 0 < k → IsOk (lines_read nums n k ws) → line_event nums n w ≡ Ok e → NextIs nums n k ws vs e
next_is nums n k w ws vs e split some left ok is =
    let one : k ≡ suc (k - 1) = omega (arith, left) in
    let reads : lines_read nums n k ws ≡ lines_read nums n (suc (k - 1)) (w ∷ vs) = ap (λ (xs : List (List ℕ)). lines_read nums n k xs) split ∙ ap (λ (i : ℕ). lines_read nums n i (w ∷ vs)) one in
    let found = next_at nums n (k - 1) w vs e some (subst (λ (r : Result (List HallEvent) LogFault). IsOk r) reads ok) is in
    record { judged = found.0; events = ap events_in reads ∙ found.1 }

-- an event more is given
pub given_more : (k : ℕ) (all rest : List HallEvent) (e : HallEvent) → drop k all ≡ e ∷ rest → (take (k + 1) all ≡ take k all ++ e ∷ []) × (drop (k + 1) all ≡ rest)
given_more k all rest e h = rw add-one (by_place k all h)
  where
    by_place : (k : ℕ) (all : List HallEvent) → drop k all ≡ e ∷ rest → (take (suc k) all ≡ take k all ++ e ∷ []) × (drop (suc k) all ≡ rest)
    by_place zero [] h = absurd (cc)
    by_place zero (x ∷ xs) h = let first : x ≡ e = cc in (ap (λ (z : HallEvent). z ∷ []) first, cc)
    by_place (suc k) [] h = absurd (cc)
    by_place (suc k) (x ∷ xs) h = let more = by_place k xs h in (ap (λ (es : List HallEvent). x ∷ es) more.0, more.1)

-- so many, or as many as there are
pub given_most : (k most : ℕ) (all : List HallEvent) → k ≡ min most (length all) → (take k all ≡ take most all) × (drop k all ≡ drop most all)
given_most zero zero all is = (refl, refl)
given_most zero (suc m) [] is = (refl, refl)
given_most zero (suc m) (x ∷ xs) is = absurd (omega (arith, is))
given_most (suc k) zero all is = absurd (omega (arith, is))
given_most (suc k) (suc m) [] is = absurd (omega (arith, is))
given_most (suc k) (suc m) (x ∷ xs) is = let more = given_most k m xs (omega (arith, is)) in (ap (λ (es : List HallEvent). x ∷ es) more.0, more.1)
