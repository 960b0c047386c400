-- A regular pattern from a place on.
use Rattle.std.proofs.Common.{◌≡◌, ℕ, ◌+◌, ◌<◌, ◌≤◌, Bool, false, List, length, drop, get_or, Some, None, eqb, ap, ◌∙◌}
use Rattle.tcl_words.proofs.Readings.{reading_here, reading_over}
use Rattle.exp_match.specs.declared.token.Token.{Token}
use Rattle.exp_match.specs.declared.token.Nesting.{Nesting}
use Rattle.exp_match.specs.Scan.{accepts, accepts_step, behind, behind_token, go_on, token_at}

pub accepts_here : (s : List ℕ) (i : ℕ) (n : Nesting) → i < length s
    → accepts (drop i s) n ≡ accepts_step (λ k. accepts (drop (i + 1 + k) s)) (get_or s i 0) (drop (i + 1) s) n
unfolding accepts
accepts_here s i n h = ap (λ (f : Nesting → Bool). f n) (reading_here (λ n. eqb n.opened 0) accepts_step s i h)

pub accepts_over : (s : List ℕ) (i : ℕ) (n : Nesting) → length s ≤ i → accepts (drop i s) n ≡ eqb n.opened 0
unfolding accepts
accepts_over s i n h = ap (λ (f : Nesting → Bool). f n) (reading_over (λ n. eqb n.opened 0) accepts_step s i h)

module _ (s : List ℕ) (i : ℕ) (n : Nesting) (h : i < length s) where
  pub no_token : token_at (get_or s i 0) (drop (i + 1) s) ≡ None → accepts (drop i s) n ≡ false
  no_token is = accepts_here s i n h ∙ ap (behind_token (λ k. accepts (drop (i + 1 + k) s)) n) is

  module _ (t : Token × ℕ) (is : token_at (get_or s i 0) (drop (i + 1) s) ≡ Some t) where
    pub no_place : behind n t.0 ≡ None → accepts (drop i s) n ≡ false
    no_place bad = accepts_here s i n h ∙ ap (behind_token (λ k. accepts (drop (i + 1 + k) s)) n) is ∙ ap (go_on (accepts (drop (i + 1 + t.1) s))) bad

    pub next_place : (m : Nesting) → behind n t.0 ≡ Some m → accepts (drop i s) n ≡ accepts (drop (i + 1 + t.1) s) m
    next_place m good = accepts_here s i n h ∙ ap (behind_token (λ k. accepts (drop (i + 1 + k) s)) n) is ∙ ap (go_on (accepts (drop (i + 1 + t.1) s))) good
