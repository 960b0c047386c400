-- Fields have no space in them, and lines no newline.
use Rattle.std.proofs.Common.{◌≡◌, ℕ, ◌+◌, ◌<◌, ◌≤◌, List, [], ◌∷◌, ◌++◌, length, Bool, true, false, ◌&&◌, refl, sym, ap, ◌∙◌, arith, length-append}
use Rattle.std.specs.Prelude.{◌==◌, if◌then◌else◌, nat_lt}
use Rattle.std.specs.List.{AllByRecursion, flat_map}
use Rattle.std.specs.Str.{all_ascii_digits}
use Rattle.std.specs.Char.{is_ascii_digit}
use Rattle.std.proofs.lemmas.List.{append-nil}
use Rattle.std.proofs.lemmas.Bool.{and_parts}
use Rattle.std.proofs.lemmas.Bool.Decides.{nat_tests}
use Rattle.child_events.specs.Log.{joined}
use Rattle.child_events.specs.Reading.{in_front, parts, is_lower_hex_digit, all_lower_hex}
use Rattle.child_events.proofs.Parts.{Without, parts_whole, parts_first}
use Rattle.child_events.proofs.Lines.{parts_some}

-- each byte is above a space
abbrev pub is_plain : List ℕ → Bool
is_plain [] = true
is_plain (b ∷ bs) = nat_lt 32 b && is_plain bs

abbrev pub ArePlain : List (List ℕ) → Type 0
ArePlain ws = AllByRecursion (λ w. is_plain w ≡ true) ws

both_true : (p q : Bool) → p ≡ true → q ≡ true → (p && q) ≡ true
both_true true true hp hq = refl
both_true true false hp hq = hq
both_true false q hp hq = hp

pub plain_digits : (w : List ℕ) → all_ascii_digits w ≡ true → is_plain w ≡ true
plain_digits [] h = refl
plain_digits (b ∷ bs) h =
    let two = and_parts (is_ascii_digit b) (all_ascii_digits bs) h in
    let first : is_ascii_digit b ≡ true = two.0 in
    both_true (nat_lt 32 b) (is_plain bs) (digit_above b first) (plain_digits bs two.1)
  where
    digit_above : (d : ℕ) → is_ascii_digit d ≡ true → nat_lt 32 d ≡ true
    digit_above d digit = grind (arith, nat_tests)

pub plain_hex : (w : List ℕ) → all_lower_hex w ≡ true → is_plain w ≡ true
plain_hex [] h = refl
plain_hex (b ∷ bs) h =
    let two = and_parts (is_lower_hex_digit b) (all_lower_hex bs) h in
    both_true (nat_lt 32 b) (is_plain bs) (digit_above b two.0) (plain_hex bs two.1)
  where
    digit_above : (d : ℕ) → is_lower_hex_digit d ≡ true → nat_lt 32 d ≡ true
    digit_above d digit = grind (arith, nat_tests)

pub without_plain : (sep : ℕ) (w : List ℕ) → sep ≤ 32 → is_plain w ≡ true → Without sep w
without_plain sep [] le h = tt
without_plain sep (b ∷ bs) le h =
    let two = and_parts (nat_lt 32 b) (is_plain bs) h in
    (other b two.0, without_plain sep bs le two.1)
  where
    other : (d : ℕ) → nat_lt 32 d ≡ true → (d == sep) ≡ false
    other d above = grind (arith, nat_tests)

without_append : (sep : ℕ) (v w : List ℕ) → Without sep v → Without sep w → Without sep (v ++ w)
without_append sep [] w hv hw = hw
without_append sep (b ∷ v) w hv hw = (hv.0, without_append sep v w hv.1 hw)

without_spaced : (ws : List (List ℕ)) → ArePlain ws → Without 10 (flat_map (λ v. 32 ∷ v) ws)
without_spaced [] h = tt
without_spaced (w ∷ ws) h = (refl, without_append 10 w (flat_map (λ v. 32 ∷ v) ws) (without_plain 10 w (omega arith) h.0) (without_spaced ws h.1))

-- a line has no newline
pub without_joined : (ws : List (List ℕ)) → ArePlain ws → Without 10 (joined 32 ws)
without_joined [] h = tt
without_joined (w ∷ ws) h = without_append 10 w (flat_map (λ v. 32 ∷ v) ws) (without_plain 10 w (omega arith) h.0) (without_spaced ws h.1)

-- and its parts round spaces are its fields
pub parts_joined : (w : List ℕ) (ws : List (List ℕ)) → ArePlain (w ∷ ws) → parts 32 (joined 32 (w ∷ ws)) ≡ w ∷ ws
parts_joined w [] h = ap (parts 32) (append-nil w) ∙ parts_whole 32 w (without_plain 32 w (omega arith) h.0)
parts_joined w (v ∷ vs) h =
    parts_first 32 w (joined 32 (v ∷ vs)) (without_plain 32 w (omega arith) h.0) ∙ ap (λ (r : List (List ℕ)). w ∷ r) (parts_joined v vs h.1)

joined_front : (sep b : ℕ) (ws : List (List ℕ)) → joined sep (in_front b ws) ≡ b ∷ joined sep ws
joined_front sep b [] = refl
joined_front sep b (w ∷ ws) = refl

joined_start : (sep : ℕ) (ws : List (List ℕ)) → 0 < length ws → joined sep ([] ∷ ws) ≡ sep ∷ joined sep ws
joined_start sep [] h = absurd (omega arith)
joined_start sep (w ∷ ws) h = refl

same_byte : (b sep : ℕ) → (b == sep) ≡ true → b ≡ sep
same_byte b sep h = grind (arith, nat_tests)

joined_test : (sep b : ℕ) (bs : List ℕ) (t : Bool) → (b == sep) ≡ t → joined sep (parts sep bs) ≡ bs → joined sep (if t then [] ∷ parts sep bs else in_front b (parts sep bs)) ≡ b ∷ bs
joined_test sep b bs true h others = joined_start sep (parts sep bs) (parts_some sep bs) ∙ ap (λ (x : ℕ). x ∷ joined sep (parts sep bs)) (sym (same_byte b sep h)) ∙ ap (λ (r : List ℕ). b ∷ r) others
joined_test sep b bs false h others = joined_front sep b (parts sep bs) ∙ ap (λ (r : List ℕ). b ∷ r) others

-- the parts with the separator between are the text
pub joined-parts : (sep : ℕ) (bs : List ℕ) → joined sep (parts sep bs) ≡ bs
joined-parts sep [] = refl
joined-parts sep (b ∷ bs) = joined_test sep b bs (b == sep) refl (joined-parts sep bs)

-- how long the words behind the first are, with their spaces
abbrev pub behind_len : List (List ℕ) → ℕ
behind_len [] = 0
behind_len (v ∷ vs) = length v + 1 + behind_len vs

spaced_len : (ws : List (List ℕ)) → length (flat_map (λ v. 32 ∷ v) ws) ≡ behind_len ws
spaced_len [] = refl
spaced_len (w ∷ ws) = let others = spaced_len ws in let e = length-append w (flat_map (λ v. 32 ∷ v) ws) in omega arith

pub joined_len : (w : List ℕ) (ws : List (List ℕ)) → length (joined 32 (w ∷ ws)) ≡ length w + behind_len ws
joined_len w ws = let e = length-append w (flat_map (λ v. 32 ∷ v) ws) in let others = spaced_len ws in omega arith
