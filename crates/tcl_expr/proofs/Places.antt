-- What a reading leaves behind it and the white space behind it.
use Rattle.std.proofs.Common.{◌≡◌, ℕ, suc, ◌+◌, ◌≤◌, true, List, [], ◌∷◌, length, drop, sym, ap, ◌∙◌, length-drop, arith}
use Rattle.std.proofs.lemmas.Bool.{eqb-true, cond_both}
use Rattle.std.proofs.lemmas.Bool.Decides.{nat_tests}
use Rattle.std.proofs.lemmas.List.{drop-drop}
use Rattle.std.proofs.lemmas.List.Sums.{prefix_len-le-length}
use Rattle.tcl_words.specs.Backslash.{blanks}
use Rattle.tcl_words.specs.Lists.{begins_with, is_white}
use Rattle.tcl_words.specs.Commands.{is_continued}
use Rattle.tcl_words.proofs.ListGraph.{course_induction}
use Rattle.tcl_expr.specs.White.{white, white_step, gap, past}

-- what is left behind the white space at a place
pub past_gap : (s : List ℕ) (n : ℕ) → past (drop n s) ≡ drop (gap s n) s
past_gap s n = drop-drop (white (drop n s)) n s

pub drop_more : (s : List ℕ) (m n k : ℕ) → k ≡ m + n → drop n (drop m s) ≡ drop k s
drop_more s m n k e = drop-drop n m s ∙ ap (λ (i : ℕ). drop i s) (sym e)

pub drop_behind : (b : ℕ) (s : List ℕ) (n k : ℕ) → k ≡ suc n → drop k (b ∷ s) ≡ drop n s
drop_behind b s n k e = ap (λ (i : ℕ). drop i (b ∷ s)) e

-- the byte that a text begins with
pub begins : (c : ℕ) (s : List ℕ) → begins_with c s ≡ true → s ≡ c ∷ drop 1 s
begins c [] h = absurd (cc)
begins c (b ∷ s) h = ap (λ (x : ℕ). x ∷ s) (eqb-true b c h)

begun : (b : ℕ) (s : List ℕ) → is_continued b s ≡ true → 1 ≤ length s
begun b [] u = absurd (grind (arith, nat_tests))
begun b (c ∷ s) u = omega arith

blanks_within : (s : List ℕ) → blanks s ≤ length s
unfolding blanks
blanks_within s = prefix_len-le-length _ s

abbrev Within : List ℕ → ℕ → Type 0
Within s n = n ≤ length s

white_turn : (b : ℕ) (s : List ℕ) → ((k : ℕ) → Within (drop k s) (white (drop k s))) → Within (b ∷ s) (white_step (λ k. white (drop k s)) b s)
white_turn b s ih =
    cond_both (is_white b) _ _ (Within (b ∷ s)) (λ t. let h : white s ≤ length s = ih 0 in omega arith)
    (λ f. cond_both (is_continued b s) _ _ (Within (b ∷ s))
    (λ t. let m : ℕ = blanks (drop 1 s) in omega (arith, ih (1 + m), length-drop (1 + m) s, length-drop 1 s, blanks_within (drop 1 s), begun b s t))
    (λ u. omega arith))

pub white_within : (s : List ℕ) → white s ≤ length s
unfolding white
white_within s = course_induction 0 white_step Within (omega arith) white_turn s 0

pub gap_within : (s : List ℕ) (n : ℕ) → n ≤ length s → gap s n ≤ length s
gap_within s n h = omega (arith, white_within (drop n s), length-drop n s)
