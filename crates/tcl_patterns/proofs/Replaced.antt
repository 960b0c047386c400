-- A text whose matches are replaced one after another.
use Rattle.std.proofs.Common.{◌≡◌, ℕ, ◌+◌, ◌-◌, ◌<◌, ◌≤◌, Bool, true, false, List, [], ◌∷◌, ◌++◌, length, take, drop, Some, None, Ok, Err, if◌then◌else◌, refl, sym, ap, ◌∙◌, arith, append_assoc, length-append}
use Rattle.exp_match.specs.Written.{Written, find_from}
use Rattle.tcl_subst.specs.Faults.{is_too_long}
use Rattle.tcl_results.specs.Ways.{Match}
use Rattle.tcl_patterns.specs.Matches.{bounds, place_after, in_turn}
use Rattle.tcl_patterns.specs.Replacing.{replacement, replaced_from, numbered, replaced}
use Rattle.tcl_results.specs.Said.{Said, ◌>>=◌, limited}
use Rattle.tcl_results.specs.Texts.{too_long}
use Rattle.tcl_results.proofs.Limits.{front_over, longer, limited_over}
use Rattle.tcl_patterns.proofs.Turns.{turn_none, turn_some, turn_over, count_none, count_over}

long_front : (front more whole : List ℕ) → whole ≡ front ++ more → is_too_long (length front) ≡ true → is_too_long (length whole) ≡ true
long_front front more whole is long = longer (length front) (length whole) (omega (arith, ap (λ (l : List ℕ). length l) is, length-append front more)) long

-- one piece more was put behind
pub piece_on : (made new piece more all whole : List ℕ) → new ≡ made ++ ([] ++ piece) → piece ++ more ≡ all → made ++ all ≡ whole → new ++ more ≡ whole
piece_on made new piece more all whole is parts was =
    ap (λ (l : List ℕ). l ++ more) is ∙ append_assoc made piece more ∙ ap (λ (l : List ℕ). made ++ l) parts ∙ was

-- what was put together so far is too long
pub piece_over : (made piece more all whole : List ℕ) → piece ++ more ≡ all → made ++ all ≡ whole → is_too_long (length (made ++ ([] ++ piece))) ≡ true → is_too_long (length whole) ≡ true
piece_over made piece more all whole parts was long =
    long_front (made ++ piece) more whole (sym (piece_on made (made ++ piece) piece more all whole refl parts was)) long

-- two pieces more were put behind
pub two_on : (made first new piece more : List ℕ) → first ≡ made ++ ([] ++ piece) → new ≡ first ++ more → new ≡ made ++ (piece ++ more)
two_on made first new piece more is last = last ∙ ap (λ (l : List ℕ). l ++ more) is ∙ append_assoc made piece more

-- the first of two pieces is too long
pub first_over : (made piece more : List ℕ) → is_too_long (length (made ++ ([] ++ piece))) ≡ true → is_too_long (length (made ++ (piece ++ more))) ≡ true
first_over made piece more long = long_front (made ++ piece) more (made ++ (piece ++ more)) (sym (append_assoc made piece more)) long

-- the second of two pieces is too long
pub second_over : (made first piece more : List ℕ) → first ≡ made ++ ([] ++ piece) → is_too_long (length (first ++ more)) ≡ true → is_too_long (length (made ++ (piece ++ more))) ≡ true
second_over made first piece more is long = sym (ap (λ (l : List ℕ). is_too_long (length l)) (two_on made first (first ++ more) piece more is refl)) ∙ long

-- a text that is short, with a number
pub short_text : (made text : List ℕ) (count : ℕ) → made ≡ text → is_too_long (length made) ≡ false → numbered text count ≡ Ok (made, count)
short_text made text count is short =
    ap (λ (l : List ℕ). numbered l count) (sym is)
    ∙ ap (λ (b : Bool). (if b then Err too_long else Ok made) >>= λ t. Ok (t, count)) short

pub long_text : (text : List ℕ) (count : ℕ) → is_too_long (length text) ≡ true → numbered text count ≡ Err too_long
long_text text count long = ap (λ (s : Said (List ℕ)). s >>= λ t. Ok (t, count)) (limited_over text long)

module _ (w : Written) (text by made : List ℕ) (most turn at done : ℕ) (all : List Match)
    (was : made ++ replaced_from text by done (in_turn (most - turn) w text at) ≡ replaced_from text by 0 all) where
  pub text_next : (m : Match) (new : List ℕ) → turn < most → find_from w text at ≡ Some m → new ≡ made ++ (drop done (take (bounds m).0 text) ++ replacement text m by)
      → new ++ replaced_from text by (bounds m).1 (in_turn (most - (turn + 1)) w text (place_after (bounds m))) ≡ replaced_from text by 0 all
  text_next m new some found is =
      let piece = drop done (take (bounds m).0 text) ++ replacement text m by in
      let more = replaced_from text by (bounds m).1 (in_turn (most - (turn + 1)) w text (place_after (bounds m))) in
      ap (λ (l : List ℕ). l ++ more) is
      ∙ append_assoc made piece more
      ∙ ap (λ (ms : List Match). made ++ replaced_from text by done ms) (sym (turn_some w text most turn at m some found))
      ∙ was

  pub text_over : (m : Match) → turn < most → find_from w text at ≡ Some m → is_too_long (length (made ++ (drop done (take (bounds m).0 text) ++ replacement text m by))) ≡ true → replaced text by all ≡ Err too_long
  text_over m some found long =
      let front : List ℕ = made ++ (drop done (take (bounds m).0 text) ++ replacement text m by) in
      let more = replaced_from text by (bounds m).1 (in_turn (most - (turn + 1)) w text (place_after (bounds m))) in
      ap (λ (s : Said (List ℕ)). s >>= λ t. Ok (t, length all)) (front_over front more (replaced_from text by 0 all) (sym (text_next m front some found refl)) long)

  module _ (count : turn + length (in_turn (most - turn) w text at) ≡ length all) where
    ended : in_turn (most - turn) w text at ≡ [] → length all ≡ turn → replaced text by all ≡ numbered (made ++ drop done text) turn
    ended is counted =
        ap (λ (l : List ℕ). numbered l (length all)) (sym was ∙ ap (λ (ms : List Match). made ++ replaced_from text by done ms) is)
        ∙ ap (λ (n : ℕ). numbered (made ++ drop done text) n) counted

    pub text_none : turn < most → find_from w text at ≡ None → replaced text by all ≡ numbered (made ++ drop done text) turn
    text_none some none = ended (turn_none w text most turn at some none) (count_none w text most turn at all count some none)

    pub text_end : most ≤ turn → replaced text by all ≡ numbered (made ++ drop done text) turn
    text_end over = ended (turn_over w text most turn at over) (count_over w text most turn at all count over)
