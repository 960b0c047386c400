-- No front of a log of version 2 or 3 is a log, but the empty one.
use Rattle.std.proofs.Common.{◌≡◌, ◌⊎◌, inl, inr, ℕ, ◌+◌, ◌-◌, ◌<◌, ◌^◌, List, [], ◌∷◌, ◌++◌, length, Bool, true, false, None, Result, Ok, Err, refl, sym, ap, ◌∙◌, append_assoc, append-nil, length-append, arith}
use Rattle.std.specs.Prelude.{◌≢◌, ◌==◌, not, if◌then◌else◌, nat_lt}
use Rattle.std.proofs.lemmas.List.{nil_from_length}
use Rattle.std.proofs.lemmas.Bool.{eqb-true}
use Rattle.child_events.specs.declared.child_numbers.ChildNumbers.{ChildNumbers}
use Rattle.child_events.specs.declared.child_numbers.ChildNumbers.TheVariants.{To16, To999}
use Rattle.child_events.specs.declared.event.HallEvent.{HallEvent}
use Rattle.child_events.specs.declared.faults.LogFault.{LogFault}
use Rattle.child_events.specs.declared.faults.LogFault.TheVariants as fault
use Rattle.child_events.specs.declared.version.Version.TheVariants.{Plain, Counted}
use Rattle.child_events.specs.Log.{longest, version_name, line_of, lines_text, heading, total_line, fields_of, joined, CountedLog, LogText}
use Rattle.child_events.specs.Reading.{in_front, parts, first_word, version_of, line_event, line_total, closed, last_part, none_where, with_line, lines_events, log_events, first_fault, ◌>>=◌}
use Rattle.child_events.proofs.Parts.{parts_first}
use Rattle.child_events.proofs.Plain.{without_joined, joined-parts}
use Rattle.child_events.proofs.Lines.{lines_more, parts_some}
use Rattle.child_events.proofs.Meant.{plain_fields}
use Rattle.child_events.proofs.Whole.{event_no_version, headed, log_meant, log_complete, counted_meant}

-- the parts of a text, and those of another one that stands behind it
abbrev glued : List (List ℕ) → List (List ℕ) → List (List ℕ)
glued [] vs = vs
glued (w ∷ []) [] = w ∷ []
glued (w ∷ []) (v ∷ vs) = (w ++ v) ∷ vs
glued (w ∷ x ∷ ws) vs = w ∷ glued (x ∷ ws) vs

glued_none : (vs : List (List ℕ)) → 0 < length vs → vs ≡ glued ([] ∷ []) vs
glued_none [] some = absurd (omega arith)
glued_none (v ∷ vs) some = refl

glued_more : (w : List ℕ) (ws vs : List (List ℕ)) → 0 < length ws → w ∷ glued ws vs ≡ glued (w ∷ ws) vs
glued_more w [] vs some = absurd (omega arith)
glued_more w (x ∷ ws) vs some = refl

glued_front : (b : ℕ) (ws vs : List (List ℕ)) → 0 < length ws → in_front b (glued ws vs) ≡ glued (in_front b ws) vs
glued_front b [] vs some = absurd (omega arith)
glued_front b (w ∷ []) [] some = refl
glued_front b (w ∷ []) (v ∷ vs) some = refl
glued_front b (w ∷ x ∷ ws) vs some = refl

glued_some : (ws : List (List ℕ)) (v : List ℕ) (vs : List (List ℕ)) → 0 < length (glued ws (v ∷ vs))
glued_some [] v vs = omega arith
glued_some (w ∷ []) v vs = omega arith
glued_some (w ∷ x ∷ ws) v vs = omega arith

parts_glued : (sep : ℕ) (a b : List ℕ) → parts sep (a ++ b) ≡ glued (parts sep a) (parts sep b)
parts_glued sep [] b = glued_none (parts sep b) (parts_some sep b)
parts_glued sep (c ∷ a) b = by_test (c == sep) (parts_glued sep a b)
  where
    by_test : (t : Bool) → parts sep (a ++ b) ≡ glued (parts sep a) (parts sep b) →
        (if t then [] ∷ parts sep (a ++ b) else in_front c (parts sep (a ++ b))) ≡ glued (if t then [] ∷ parts sep a else in_front c (parts sep a)) (parts sep b)
    by_test true same = ap (λ (ws : List (List ℕ)). [] ∷ ws) same ∙ glued_more [] (parts sep a) (parts sep b) (parts_some sep a)
    by_test false same = ap (in_front c) same ∙ glued_front c (parts sep a) (parts sep b) (parts_some sep a)

-- nothing in some parts is one empty part
nothing_is : (ws : List (List ℕ)) → 0 < length ws → joined 10 ws ≡ [] → ws ≡ [] ∷ []
nothing_is [] some none = absurd (omega arith)
nothing_is (w ∷ []) some none = ap (λ (x : List ℕ). x ∷ []) (sym (append-nil w) ∙ none)
nothing_is ([] ∷ x ∷ ws) some none = absurd (cc)
nothing_is ((b ∷ w) ∷ x ∷ ws) some none = absurd (cc)

last_never : (nums : ChildNumbers) (n : ℕ) (w : List ℕ) (es : List HallEvent) → none_where (last_part (Counted nums) n w) ≡ Ok es → ⊥
last_never nums n w es h = by_tests (nat_lt (longest nums) (length w)) (length w == 0) h
  where
    by_tests : (p q : Bool) → none_where (if p then Err (fault.TooLong n) else if not q then Err (fault.Shape n) else Err (fault.Total n)) ≡ Ok es → ⊥
    by_tests true q said = absurd (cc)
    by_tests false true said = absurd (cc)
    by_tests false false said = absurd (cc)

-- behind a total without a fault stands nothing
closed_nothing : (n seen k : ℕ) (behind : List (List ℕ)) (es : List HallEvent) → none_where (closed n seen k behind) ≡ Ok es → joined 10 behind ≡ []
closed_nothing n seen k behind es h = by_tests (k == seen) (length (joined 10 behind) == 0) refl h
  where
    by_tests : (p q : Bool) → (length (joined 10 behind) == 0) ≡ q → none_where (if not p then Err (fault.Total n) else if not q then Err (fault.Total (n + 1)) else Ok tt) ≡ Ok es → joined 10 behind ≡ []
    by_tests false q none said = absurd (cc)
    by_tests true false none said = absurd (cc)
    by_tests true true none said = nil_from_length (joined 10 behind) (eqb-true (length (joined 10 behind)) 0 none)

-- where a front reads as events, nothing stands behind it
front_is_all : (nums : ChildNumbers) (n : ℕ) (ws : List (List ℕ)) (v : List ℕ) (vs : List (List ℕ)) (es fs : List HallEvent) → 0 < length ws →
    lines_events (Counted nums) n ws ≡ Ok fs → lines_events (Counted nums) n (glued ws (v ∷ vs)) ≡ Ok es → joined 10 (v ∷ vs) ≡ []
front_is_all nums n [] v vs es fs some front all = absurd (omega arith)
front_is_all nums n (w ∷ []) v vs es fs some front all = absurd (last_never nums n w fs front)
front_is_all nums n (w ∷ x ∷ ws) v vs es fs some front all =
    by_line (line_event nums n w) (lines_events (Counted nums) (n + 1) (x ∷ ws)) (lines_events (Counted nums) (n + 1) (glued (x ∷ ws) (v ∷ vs))) (λ es fs. front_is_all nums (n + 1) (x ∷ ws) v vs es fs (omega arith)) front
    (sym (lines_more (Counted nums) n w (glued (x ∷ ws) (v ∷ vs)) (glued_some (x ∷ ws) v vs)) ∙ all)
  where
    by_total : (total : Result ℕ LogFault) → none_where (total >>= λ k. closed n (n - 2) k (x ∷ ws)) ≡ Ok fs → none_where (total >>= λ k. closed n (n - 2) k (glued (x ∷ ws) (v ∷ vs))) ≡ Ok es → joined 10 (v ∷ vs) ≡ []
    by_total (Err f) front all = absurd (cc)
    by_total (Ok k) front all =
        let alone = nothing_is (x ∷ ws) (omega arith) (closed_nothing n (n - 2) k (x ∷ ws) fs front) in
        sym (ap (λ (us : List (List ℕ)). joined 10 (glued us (v ∷ vs))) alone) ∙ closed_nothing n (n - 2) k (glued (x ∷ ws) (v ∷ vs)) es all

    by_line : (first : Result HallEvent LogFault) (less more : Result (List HallEvent) LogFault) → ((es fs : List HallEvent) → less ≡ Ok fs → more ≡ Ok es → joined 10 (v ∷ vs) ≡ []) →
        with_line (Counted nums) n w first (x ∷ ws) less ≡ Ok fs → with_line (Counted nums) n w first (glued (x ∷ ws) (v ∷ vs)) more ≡ Ok es → joined 10 (v ∷ vs) ≡ []
    by_line (Ok e) (Err f) more others front all = absurd (cc)
    by_line (Ok e) (Ok gs) (Err f) others front all = absurd (cc)
    by_line (Ok e) (Ok gs) (Ok hs) others front all = others hs gs refl refl
    by_line (Err f) less more others front all = by_total (line_total (Counted nums) n f w) front all

text_is_all : (nums : ChildNumbers) (n : ℕ) (front rest : List ℕ) (es fs : List HallEvent) → lines_events (Counted nums) n (parts 10 front) ≡ Ok fs → lines_events (Counted nums) n (parts 10 (front ++ rest)) ≡ Ok es → rest ≡ []
text_is_all nums n front rest es fs less all =
    sym (joined-parts 10 rest) ∙ by_parts (parts 10 rest) (parts_some 10 rest) (sym (ap (lines_events (Counted nums) n) (parts_glued 10 front rest)) ∙ all)
  where
    by_parts : (vs : List (List ℕ)) → 0 < length vs → lines_events (Counted nums) n (glued (parts 10 front) vs) ≡ Ok es → joined 10 vs ≡ []
    by_parts [] some said = absurd (omega arith)
    by_parts (v ∷ vs) some said = front_is_all nums n (parts 10 front) v vs es fs (parts_some 10 front) less said

-- of two fronts of a text, one is a front of the other
record Behind (h a b t : List ℕ) : Type 0 where
  more : List ℕ
  front : a ≡ h ++ more
  rest : more ++ b ≡ t

record Within (h a : List ℕ) : Type 0 where
  more : List ℕ
  front : h ≡ a ++ more
  some : 0 < length more

either_front : (h a b t : List ℕ) → a ++ b ≡ h ++ t → Behind h a b t ⊎ Within h a
either_front [] a b t same = inl (record { more = a; front = refl; rest = same })
either_front (y ∷ h) [] b t same = inr (record { more = y ∷ h; front = refl; some = omega arith })
either_front (y ∷ h) (x ∷ a) b t same =
    let byte : x ≡ y = cc in
    let others : a ++ b ≡ h ++ t = cc in
    by_case byte (either_front h a b t others)
  where
    by_case : x ≡ y → Behind h a b t ⊎ Within h a → Behind (y ∷ h) (x ∷ a) b t ⊎ Within (y ∷ h) (x ∷ a)
    by_case byte (inl is) = inl (record { more = is.more; front = ap (λ (c : ℕ). c ∷ a) byte ∙ ap (λ (l : List ℕ). y ∷ l) is.front; rest = is.rest })
    by_case byte (inr is) = inr (record { more = is.more; front = ap (λ (l : List ℕ). y ∷ l) is.front ∙ ap (λ (c : ℕ). c ∷ (a ++ is.more)) (sym byte); some = is.some })

-- a front of the first line is no log
pub heading_len : (nums : ChildNumbers) → length (heading nums) ≡ 13
heading_len To16 = refl
heading_len To999 = refl

heading_front : (nums : ChildNumbers) (front more : List ℕ) (fs : List HallEvent) → heading nums ≡ front ++ more → 0 < length more → 0 < length front → LogText front fs → ⊥
heading_front nums front more fs is behind some (inr h) =
    let all = length-append front more in
    let thirteen : length (front ++ more) ≡ 13 = sym (ap length is) ∙ heading_len nums in
    let long : length front ≡ length (heading h.0 ++ (lines_text fs ++ total_line (length fs))) = ap length h.1.0 in
    let first = length-append (heading h.0) (lines_text fs ++ total_line (length fs)) in
    let other = heading_len h.0 in
    absurd (omega arith)
heading_front nums front more [] is behind some (inl h) = absurd (omega (arith, ap length h.0))
heading_front nums front more (f ∷ fs) is behind some (inl h) =
    let fit = h.1.0.0 in
    let of_bytes = h.1.1.0 in
    let text : front ++ more ≡ line_of f ++ 10 ∷ (lines_text fs ++ more) = ap (λ (b : List ℕ). b ++ more) h.0 ∙ append_assoc (line_of f ++ 10 ∷ []) (lines_text fs) more ∙ append_assoc (line_of f) (10 ∷ []) (lines_text fs ++ more) in
    let first : version_name nums ≡ line_of f = sym (first_of nums) ∙ ap (λ (b : List ℕ). first_word (parts 10 b)) (is ∙ text) ∙ ap first_word (parts_first 10 (line_of f) (lines_text fs ++ more) (without_joined (fields_of f) (plain_fields To16 f fit of_bytes))) in
    let version : Ok (Counted nums) ≡ Ok Plain = sym (names nums) ∙ ap version_of first ∙ event_no_version f fit of_bytes in
    absurd (cc)
  where
    first_of : (k : ChildNumbers) → first_word (parts 10 (heading k)) ≡ version_name k
    first_of To16 = refl
    first_of To999 = refl

    names : (k : ChildNumbers) → version_of (version_name k) ≡ Ok (Counted k)
    names To16 = refl
    names To999 = refl

pub cut_off : (nums : ChildNumbers) (front rest : List ℕ) (es : List HallEvent) → CountedLog nums (front ++ rest) es → length es < 10 ^ 16 → 0 < length front → 0 < length rest → first_fault front ≢ None
cut_off nums front rest es h few some behind none =
    let log = log_complete front none in
    by_case log.0 log.1 (either_front (heading nums) front rest (lines_text es ++ total_line (length es)) h.0)
  where
    by_case : (fs : List HallEvent) → LogText front fs → Behind (heading nums) front rest (lines_text es ++ total_line (length es)) ⊎ Within (heading nums) front → ⊥
    by_case fs log (inr within) = heading_front nums front within.more fs within.front within.some some log
    by_case fs log (inl is) =
        let less : lines_events (Counted nums) 2 (parts 10 is.more) ≡ Ok fs = sym (ap log_events is.front ∙ headed nums is.more) ∙ log_meant front fs log in
        let whole : front ++ rest ≡ heading nums ++ (is.more ++ rest) = ap (λ (b : List ℕ). b ++ rest) is.front ∙ append_assoc (heading nums) is.more rest in
        let all : lines_events (Counted nums) 2 (parts 10 (is.more ++ rest)) ≡ Ok es = sym (ap log_events whole ∙ headed nums (is.more ++ rest)) ∙ counted_meant nums (front ++ rest) es h few in
        let nothing = text_is_all nums 2 is.more rest es fs less all in
        absurd (omega (arith, ap length nothing))
