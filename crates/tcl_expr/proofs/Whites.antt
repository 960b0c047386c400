-- White space at a place of a text.
use Rattle.std.proofs.Common.{◌≡◌, ℕ, ◌+◌, ◌<◌, ◌≤◌, true, false, List, [], ◌∷◌, length, drop, get_or, refl, ap, ◌∙◌, add-zero, arith}
use Rattle.tcl_words.specs.Backslash.{blanks}
use Rattle.tcl_words.specs.Lists.{is_white}
use Rattle.std.proofs.lemmas.Bool.Decides.{nat_tests}
use Rattle.tcl_words.specs.Commands.{is_continued}
use Rattle.tcl_words.proofs.Readings.{reading_here, reading_over}
use Rattle.tcl_expr.specs.White.{white, white_step}

pub white_here : (s : List ℕ) (i : ℕ) → i < length s → white (drop i s) ≡ white_step (λ k. white (drop (i + 1 + k) s)) (get_or s i 0) (drop (i + 1) s)
unfolding white
white_here s i h = reading_here 0 white_step s i h

pub white_over : (s : List ℕ) (i : ℕ) → length s ≤ i → white (drop i s) ≡ 0
unfolding white
white_over s i h = reading_over 0 white_step s i h

-- a byte of white space
pub white_one : (s : List ℕ) (i : ℕ) → i < length s → is_white (get_or s i 0) ≡ true → i + 1 + white (drop (i + 1) s) ≡ i + white (drop i s)
white_one s i h t =
    let e : white (drop i s) ≡ 1 + white (drop (i + 1 + 0) s) = white_here s i h ∙ rw t refl in
    let f : white (drop (i + 1 + 0) s) ≡ white (drop (i + 1) s) = rw add-zero refl in
    omega (arith, e, f)

-- none
pub white_none : (s : List ℕ) (i : ℕ) → i < length s → is_white (get_or s i 0) ≡ false → is_continued (get_or s i 0) (drop (i + 1) s) ≡ false → white (drop i s) ≡ 0
white_none s i h t u = white_here s i h ∙ rw (t, u) refl

-- a backslash before a newline, with n spaces and tabs behind it
pub white_long : (s : List ℕ) (i n : ℕ) → i < length s → is_white (get_or s i 0) ≡ false → is_continued (get_or s i 0) (drop (i + 1) s) ≡ true
    → n ≡ blanks (drop 1 (drop (i + 1) s)) → i + (2 + n) + white (drop (i + (2 + n)) s) ≡ i + white (drop i s)
white_long s i n h t u b =
    let m : ℕ = blanks (drop 1 (drop (i + 1) s)) in
    let e : white (drop i s) ≡ 2 + m + white (drop (i + 1 + (1 + m)) s) = white_here s i h ∙ rw (t, u) refl in
    let same : i + (2 + n) ≡ i + 1 + (1 + m) = omega (arith, b) in
    let f : white (drop (i + (2 + n)) s) ≡ white (drop (i + 1 + (1 + m)) s) = ap (λ k. white (drop k s)) same in
    omega (arith, e, f, b)

begun : (b : ℕ) (s : List ℕ) → is_continued b s ≡ true → 0 < length s
begun b [] u = absurd (grind (arith, nat_tests))
begun b (c ∷ s) u = omega arith

-- the newline is there
pub continued_has : (s : List ℕ) (i : ℕ) → is_continued (get_or s i 0) (drop (i + 1) s) ≡ true → 0 < length (drop (i + 1) s)
continued_has s i u = begun (get_or s i 0) (drop (i + 1) s) u
