-- The members of a class at a place of a pattern.
use Rattle.std.proofs.Common.{◌≡◌, ℕ, ◌+◌, ◌-◌, ◌<◌, ◌≤◌, true, false, List, ◌∷◌, length, drop, get_or, Option, Some, None, refl, sym, ap, ◌∙◌, arith}
use Rattle.tcl_words.specs.Lists.{plus}
use Rattle.tcl_words.proofs.Closings.{plus-plus}
use Rattle.tcl_words.proofs.Readings.{byte_at, reading_here, reading_over}
use Rattle.exp_match.specs.Scan.{may_end, ending, member, members, members_step}

pub members_here : (s : List ℕ) (i : ℕ) → i < length s → members (drop i s) ≡ members_step (λ k. members (drop (i + 1 + k) s)) (get_or s i 0) (drop (i + 1) s)
unfolding members
members_here s i h = reading_here None members_step s i h

pub members_over : (s : List ℕ) (i : ℕ) → length s ≤ i → members (drop i s) ≡ None
unfolding members
members_over s i h = reading_over None members_step s i h

module _ (s : List ℕ) (i : ℕ) (whole : Option ℕ) (h : i < length s) (so_far : plus i (members (drop i s)) ≡ whole) where
  pub members_end : (n : Option ℕ) → may_end (get_or s i 0) ≡ true → n ≡ ending (get_or s i 0) (drop (i + 1) s) → plus i n ≡ whole
  members_end n stops is =
      let here : members (drop i s) ≡ ending (get_or s i 0) (drop (i + 1) s) = members_here s i h ∙ rw stops refl in
      ap (plus i) (is ∙ sym here) ∙ so_far

  pub members_fail : may_end (get_or s i 0) ≡ false → member (drop i s) ≡ None → None ≡ whole
  members_fail goes bad =
      let at : member (get_or s i 0 ∷ drop (i + 1) s) ≡ None = ap member (sym (byte_at s i h)) ∙ bad in
      let here : members (drop i s) ≡ None = members_here s i h ∙ rw (goes, at) refl in
      sym (ap (plus i) here) ∙ so_far

  pub members_turn : (n : ℕ) → may_end (get_or s i 0) ≡ false → member (drop i s) ≡ Some n → 0 < n → plus (i + n) (members (drop (i + n) s)) ≡ whole
  members_turn n goes is more =
      let at : member (get_or s i 0 ∷ drop (i + 1) s) ≡ Some n = ap member (sym (byte_at s i h)) ∙ is in
      let on : i + 1 + (n - 1) ≡ i + n = omega arith in
      let here : members (drop i s) ≡ plus n (members (drop (i + 1 + (n - 1)) s)) = members_here s i h ∙ rw (goes, at) refl in
      sym (plus-plus i n (members (drop (i + n) s)))
      ∙ ap (λ (k : ℕ). plus i (plus n (members (drop k s)))) (sym on)
      ∙ sym (ap (plus i) here) ∙ so_far
