-- The pieces of a log are what encode_lower writes.
use Rattle.std.proofs.Common.{◌≡◌, ℕ, zero, suc, ◌+◌, ◌*◌, ◌-◌, ◌/◌, ◌%◌, ◌<◌, ◌≤◌, List, [], ◌∷◌, length, slice_index, Bool, true, false, not, ◌&&◌, inl, inr, Some, Result, Ok, Err, refl, sym, ap, subst, lit<, eq-eqb, ◌∙◌, ◌⊎◌, arith}
use Rattle.std.specs.Prelude.{◌==◌, if◌then◌else◌, nat_le, nat_lt, nat_eq, codes, IsOk}
use Rattle.std.specs.Str.{bytes_eq}
use Rattle.std.proofs.lemmas.Bool.Decides.{nat_tests}
use Rattle.std.proofs.lemmas.Bool.{and_parts, cases_lt, eqb-true}
use Rattle.std.proofs.lemmas.Slice.Eq.{bytes_eq-Decides}
use Rattle.hex.specs.declared.error.FromHexError.{FromHexError}
use Rattle.hex.specs.declared.error.FromHexError.TheVariants.{OutOfMemory}
use Rattle.hex.specs.Hex.{IsBytes, decode_of, decode_pairs, encode_lower, encode_with, hex_digit_value, lower_digits, pair_value, value_at, digit_or_error}
use Rattle.hex.proofs.Pairs.{cons_byte, decode_pairs-ok_pair}
use Rattle.hex.proofs.HexLemmas.{decode_of-encode_lower, decode_of-even, length-encode_with}
use Rattle.child_events.specs.declared.faults.LogFault.TheVariants as fault
use Rattle.child_events.specs.Log.{hex_text}
use Rattle.child_events.specs.Reading.{is_lower_hex_digit, all_lower_hex, piece_of, decoded}

-- the digit of a value
abbrev glyph : ℕ → ℕ
glyph v = if nat_lt v 10 then v + 48 else v + 87

abbrev glyphs_below : ℕ → Bool
glyphs_below zero = true
glyphs_below (suc n) = (slice_index lower_digits n == glyph n) && glyphs_below n

glyphs_below-at : (n k : ℕ) → glyphs_below n ≡ true → k < n → slice_index lower_digits k ≡ glyph k
glyphs_below-at zero k h lt = absurd (omega arith)
glyphs_below-at (suc n) k h lt =
    let both = and_parts (slice_index lower_digits n == glyph n) (glyphs_below n) h in
    elim (cases_lt k n) [
      | inl below ↦ glyphs_below-at n k both.1 below
      | inr top ↦
          let e : k ≡ n = omega arith in
          rw e (eqb-true (slice_index lower_digits n) (glyph n) both.0)
    ]

digit_is : (k : ℕ) → k < 16 → slice_index lower_digits k ≡ glyph k
digit_is k lt = glyphs_below-at 16 k refl lt

-- a lower-case digit has a value, and is that value's digit
abbrev value_of : ℕ → ℕ
value_of d = if nat_le d 57 then d - 48 else d - 87

value_is : (d : ℕ) → is_lower_hex_digit d ≡ true → hex_digit_value d ≡ Some (value_of d)
value_is d lower = grind (arith, nat_tests)

value_small : (d : ℕ) → is_lower_hex_digit d ≡ true → value_of d < 16
value_small d lower = grind (arith, nat_tests)

value_glyph : (d : ℕ) → is_lower_hex_digit d ≡ true → glyph (value_of d) ≡ d
value_glyph d lower = grind (arith, nat_tests)

lower_meant : (k : ℕ) → k < 16 → is_lower_hex_digit (glyph k) ≡ true
lower_meant k lt = grind (arith, nat_tests)

pair_is : (h l i : ℕ) → is_lower_hex_digit h ≡ true → is_lower_hex_digit l ≡ true → pair_value h l i ≡ Ok (value_of h * 16 + value_of l)
pair_is h l i lh ll =
    let first : value_at h i ≡ Ok (value_of h) = ap (digit_or_error h i) (value_is h lh) in
    let second : value_at l (i + 1) ≡ Ok (value_of l) = ap (digit_or_error l (i + 1)) (value_is l ll) in
    rw (first, second) refl

-- lower-case pairs have bytes
pub pairs_decode : (i : ℕ) (w : List ℕ) → all_lower_hex w ≡ true → length w % 2 ≡ 0 → IsOk (decode_pairs i w)
unfolding decode_pairs
pairs_decode i [] lower even = refl
pairs_decode i (d ∷ []) lower even = absurd (omega (arith, even))
pairs_decode i (h ∷ l ∷ rest) lower even = by_cases (decode_pairs (i + 2) rest) refl (pairs_decode (i + 2) rest others (omega (arith, even)))
  where
    first : is_lower_hex_digit h ≡ true
    first = (and_parts (is_lower_hex_digit h) (all_lower_hex (l ∷ rest)) lower).0

    second : is_lower_hex_digit l ≡ true
    second = (and_parts (is_lower_hex_digit l) (all_lower_hex rest) (and_parts (is_lower_hex_digit h) (all_lower_hex (l ∷ rest)) lower).1).0

    others : all_lower_hex rest ≡ true
    others = (and_parts (is_lower_hex_digit l) (all_lower_hex rest) (and_parts (is_lower_hex_digit h) (all_lower_hex (l ∷ rest)) lower).1).1

    step : decode_pairs i (h ∷ l ∷ rest) ≡ cons_byte (value_of h * 16 + value_of l) (decode_pairs (i + 2) rest)
    step = decode_pairs-ok_pair i h l (value_of h * 16 + value_of l) rest (pair_is h l i first second)

    by_cases : (r : Result (List ℕ) FromHexError) → decode_pairs (i + 2) rest ≡ r → IsOk r → IsOk (decode_pairs i (h ∷ l ∷ rest))
    by_cases (Ok bs) is ok = subst (λ (x : Result (List ℕ) FromHexError). IsOk x) (sym (step ∙ ap (cons_byte (value_of h * 16 + value_of l)) is)) refl
    by_cases (Err f) is ok = absurd (cc)

-- so that want of memory alone keeps them from being read
pub memory_alone : (w : List ℕ) (e : FromHexError) → all_lower_hex w ≡ true → length w % 2 ≡ 0 → (e ≡ OutOfMemory) ⊎ (decode_of w ≡ Err e) → e ≡ OutOfMemory
memory_alone w e lower even (inl memory) = memory
memory_alone w e lower even (inr so) =
    let read = subst (λ (r : Result (List ℕ) FromHexError). IsOk r) (sym (decode_of-even w even) ∙ so) (pairs_decode 0 w lower even) in
    absurd (cc)

pub record Encodes (text bytes : List ℕ) : Type 0 where
  pub same : text ≡ encode_lower bytes
  pub bytes_fit : IsBytes bytes

no_bytes : IsBytes []
no_bytes i = lit< tt

more_bytes : (b : ℕ) (bs : List ℕ) → b < 256 → IsBytes bs → IsBytes (b ∷ bs)
more_bytes b bs lt others zero = lt
more_bytes b bs lt others (suc i) = others i

encodes_pair : (h l : ℕ) (rest bytes : List ℕ) → is_lower_hex_digit h ≡ true → is_lower_hex_digit l ≡ true → Encodes rest bytes → Encodes (h ∷ l ∷ rest) ((value_of h * 16 + value_of l) ∷ bytes)
unfolding encode_with
encodes_pair h l rest bytes lh ll others =
    let vh : value_of h < 16 = value_small h lh in
    let vl : value_of l < 16 = value_small l ll in
    let high : (value_of h * 16 + value_of l) / 16 ≡ value_of h = omega arith in
    let low : (value_of h * 16 + value_of l) % 16 ≡ value_of l = omega arith in
    let first : slice_index lower_digits ((value_of h * 16 + value_of l) / 16) ≡ h = ap (slice_index lower_digits) high ∙ digit_is (value_of h) vh ∙ value_glyph h lh in
    let second : slice_index lower_digits ((value_of h * 16 + value_of l) % 16) ≡ l = ap (slice_index lower_digits) low ∙ digit_is (value_of l) vl ∙ value_glyph l ll in
    record {
      same =
          ap (λ (r : List ℕ). h ∷ l ∷ r) others.same
          ∙ ap (λ (d : ℕ). d ∷ l ∷ encode_lower bytes) (sym first)
          ∙ ap (λ (d : ℕ). slice_index lower_digits ((value_of h * 16 + value_of l) / 16) ∷ d ∷ encode_lower bytes) (sym second);
      bytes_fit = more_bytes (value_of h * 16 + value_of l) bytes (omega arith) others.bytes_fit;
    }

pairs_said : (i : ℕ) (text bytes : List ℕ) → all_lower_hex text ≡ true → decode_pairs i text ≡ Ok bytes → Encodes text bytes
unfolding decode_pairs encode_with
pairs_said i [] bytes lower said = let e : [] ≡ bytes = cc in subst (Encodes []) e (record { same = refl; bytes_fit = no_bytes })
pairs_said i (d ∷ []) bytes lower said = absurd (cc)
pairs_said i (h ∷ l ∷ rest) bytes lower said = by_cases (decode_pairs (i + 2) rest) refl (pairs_said (i + 2) rest)
  where
    first : is_lower_hex_digit h ≡ true
    first = (and_parts (is_lower_hex_digit h) (all_lower_hex (l ∷ rest)) lower).0

    second : is_lower_hex_digit l ≡ true
    second = (and_parts (is_lower_hex_digit l) (all_lower_hex rest) (and_parts (is_lower_hex_digit h) (all_lower_hex (l ∷ rest)) lower).1).0

    others_lower : all_lower_hex rest ≡ true
    others_lower = (and_parts (is_lower_hex_digit l) (all_lower_hex rest) (and_parts (is_lower_hex_digit h) (all_lower_hex (l ∷ rest)) lower).1).1

    step : decode_pairs i (h ∷ l ∷ rest) ≡ cons_byte (value_of h * 16 + value_of l) (decode_pairs (i + 2) rest)
    step = decode_pairs-ok_pair i h l (value_of h * 16 + value_of l) rest (pair_is h l i first second)

    by_cases : (r : Result (List ℕ) FromHexError) → decode_pairs (i + 2) rest ≡ r → ((bs : List ℕ) → all_lower_hex rest ≡ true → r ≡ Ok bs → Encodes rest bs) → Encodes (h ∷ l ∷ rest) bytes
    by_cases (Ok bs) is others =
        let whole : Ok ((value_of h * 16 + value_of l) ∷ bs) ≡ Ok bytes = sym (step ∙ ap (cons_byte (value_of h * 16 + value_of l)) is) ∙ said in
        let e : (value_of h * 16 + value_of l) ∷ bs ≡ bytes = cc in
        subst (Encodes (h ∷ l ∷ rest)) e (encodes_pair h l rest bs first second (others bs others_lower refl))
    by_cases (Err f) is others =
        let whole : Err f ≡ Ok bytes = sym (step ∙ ap (cons_byte (value_of h * 16 + value_of l)) is) ∙ said in
        absurd (cc)

shown : (text bytes : List ℕ) → 0 < length text → text ≡ encode_lower bytes → text ≡ hex_text bytes
shown text [] some same = absurd (let none = length-encode_with lower_digits [] in let e = ap length same in omega arith)
shown text (b ∷ bs) some same = same

-- what is needed of a piece that was read
pub record Holds (text bytes : List ℕ) : Type 0 where
  pub same : text ≡ hex_text bytes
  pub few : length bytes ≤ 4096
  pub bytes_fit : IsBytes bytes

pub piece_said : (n : ℕ) (text bytes : List ℕ) → 0 < length text → piece_of n text ≡ Ok bytes → Holds text bytes
piece_said n text bytes some said =
    by_tests (bytes_eq text (codes "-")) (length text % 2 == 0) (all_lower_hex text) (nat_lt 8192 (length text)) (decode_of text) refl refl refl refl refl said
  where
    by_tests : (d e l g : Bool) (r : Result (List ℕ) FromHexError) → bytes_eq text (codes "-") ≡ d → (length text % 2 == 0) ≡ e → all_lower_hex text ≡ l → nat_lt 8192 (length text) ≡ g → decode_of text ≡ r →
        (if d then Ok [] else if not (e && l) then Err (fault.Hex n) else if g then Err (fault.TooLong n) else decoded n r) ≡ Ok bytes → Holds text bytes
    by_tests true e l g r hd he hl hg hr h =
        let none : [] ≡ bytes = cc in
        subst (Holds text) none (record { same = (bytes_eq-Decides text (codes "-")).0 hd; few = omega arith; bytes_fit = no_bytes })
    by_tests false true true false (Ok bs) hd he hl hg hr h =
        let e : bs ≡ bytes = cc in
        let even : length text % 2 ≡ 0 = eqb-true (length text % 2) 0 he in
        let pairs : decode_pairs 0 text ≡ Ok bs = sym (decode_of-even text even) ∙ hr in
        let found = pairs_said 0 text bs hl pairs in
        let short : length text ≤ 8192 = grind (arith, nat_tests) in
        let twice : length text ≡ 2 * length bs = ap length found.same ∙ length-encode_with lower_digits bs in
        subst (Holds text) e (record { same = shown text bs some found.same; few = omega arith; bytes_fit = found.bytes_fit })
    by_tests false true true false (Err f) hd he hl hg hr h = absurd (cc)
    by_tests false true true true r hd he hl hg hr h = absurd (cc)
    by_tests false true false g r hd he hl hg hr h = absurd (cc)
    by_tests false false l g r hd he hl hg hr h = absurd (cc)

digit_lower : (k : ℕ) → k < 16 → is_lower_hex_digit (slice_index lower_digits k) ≡ true
digit_lower k lt = ap is_lower_hex_digit (digit_is k lt) ∙ lower_meant k lt

pub encoded_lower : (bytes : List ℕ) → IsBytes bytes → all_lower_hex (encode_lower bytes) ≡ true
unfolding encode_with
encoded_lower [] fit = refl
encoded_lower (b ∷ bs) fit =
    let lt : b < 256 = fit 0 in
    let high : b / 16 < 16 = omega arith in
    let low : b % 16 < 16 = omega arith in
    rw (digit_lower (b / 16) high, digit_lower (b % 16) low) (encoded_lower bs (λ i. fit (suc i)))

no_dash : (a b : ℕ) (r : List ℕ) → bytes_eq (a ∷ b ∷ r) (codes "-") ≡ false
no_dash a b r = by_test (nat_eq a 45)
  where
    by_test : (t : Bool) → (t && false) ≡ false
    by_test true = refl
    by_test false = refl

encoded_no_dash : (b : ℕ) (bs : List ℕ) → bytes_eq (encode_lower (b ∷ bs)) (codes "-") ≡ false
unfolding encode_with
encoded_no_dash b bs = no_dash (slice_index lower_digits (b / 16)) (slice_index lower_digits (b % 16)) (encode_lower bs)

pub piece_meant : (n : ℕ) (bytes : List ℕ) → IsBytes bytes → length bytes ≤ 4096 → piece_of n (hex_text bytes) ≡ Ok bytes
piece_meant n [] fit few = refl
piece_meant n (b ∷ bs) fit few =
    by_tests (bytes_eq (encode_lower (b ∷ bs)) (codes "-")) (length (encode_lower (b ∷ bs)) % 2 == 0) (all_lower_hex (encode_lower (b ∷ bs)))
    (nat_lt 8192 (length (encode_lower (b ∷ bs)))) (decode_of (encode_lower (b ∷ bs)))
    (encoded_no_dash b bs) (even (length-encode_with lower_digits (b ∷ bs))) (encoded_lower (b ∷ bs) fit) (short (length-encode_with lower_digits (b ∷ bs))) (decode_of-encode_lower (b ∷ bs) fit)
  where
    even : length (encode_lower (b ∷ bs)) ≡ 2 * length (b ∷ bs) → (length (encode_lower (b ∷ bs)) % 2 == 0) ≡ true
    even twice = eq-eqb (length (encode_lower (b ∷ bs)) % 2) 0 (omega arith)

    short : length (encode_lower (b ∷ bs)) ≡ 2 * length (b ∷ bs) → nat_lt 8192 (length (encode_lower (b ∷ bs))) ≡ false
    short twice = let le : length (encode_lower (b ∷ bs)) ≤ 8192 = omega arith in grind (arith, nat_tests)

    by_tests : (d e l g : Bool) (r : Result (List ℕ) FromHexError) → d ≡ false → e ≡ true → l ≡ true → g ≡ false → r ≡ Ok (b ∷ bs) →
        (if d then Ok [] else if not (e && l) then Err (fault.Hex n) else if g then Err (fault.TooLong n) else decoded n r) ≡ Ok (b ∷ bs)
    by_tests true e l g r hd he hl hg hr = absurd (cc)
    by_tests false false l g r hd he hl hg hr = absurd (cc)
    by_tests false true false g r hd he hl hg hr = absurd (cc)
    by_tests false true true true r hd he hl hg hr = absurd (cc)
    by_tests false true true false r hd he hl hg hr = ap (decoded n) hr
