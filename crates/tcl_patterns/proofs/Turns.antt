-- Matches in turn, one more.
use Rattle.std.proofs.Common.{◌≡◌, ℕ, suc, ◌+◌, ◌-◌, ◌<◌, ◌≤◌, List, [], ◌∷◌, length, Option, Some, None, refl, sym, ap, ◌∙◌, arith}
use Rattle.exp_match.specs.Written.{Written, find_from}
use Rattle.tcl_results.specs.Ways.{Match, no_match}
use Rattle.tcl_patterns.specs.Matches.{bounds, place_after, on_match, in_turn}
use Rattle.tcl_patterns.specs.Regexps.{last_of, counted}

module _ (w : Written) (text : List ℕ) (most turn at : ℕ) where
  left_of : turn < most → in_turn (most - turn) w text at ≡ on_match (λ next. in_turn (most - (turn + 1)) w text next) (find_from w text at)
  left_of some = let next : most - turn ≡ suc (most - (turn + 1)) = omega arith in ap (λ (n : ℕ). in_turn n w text at) next

  pub turn_none : turn < most → find_from w text at ≡ None → in_turn (most - turn) w text at ≡ []
  turn_none some none = left_of some ∙ ap (λ (o : Option Match). on_match (λ next. in_turn (most - (turn + 1)) w text next) o) none

  pub turn_some : (m : Match) → turn < most → find_from w text at ≡ Some m → in_turn (most - turn) w text at ≡ m ∷ in_turn (most - (turn + 1)) w text (place_after (bounds m))
  turn_some m some found = left_of some ∙ ap (λ (o : Option Match). on_match (λ next. in_turn (most - (turn + 1)) w text next) o) found

  pub turn_over : most ≤ turn → in_turn (most - turn) w text at ≡ []
  turn_over all = let none : most - turn ≡ 0 = omega arith in ap (λ (n : ℕ). in_turn n w text at) none

  module _ (whole : List Match) (count : turn + length (in_turn (most - turn) w text at) ≡ length whole) where
    -- a match more was found
    pub count_next : (m : Match) → turn < most → find_from w text at ≡ Some m → (turn + 1) + length (in_turn (most - (turn + 1)) w text (place_after (bounds m))) ≡ length whole
    count_next m some found = let is = ap (λ (ms : List Match). length ms) (turn_some m some found) in omega (arith, is)

    count_is : in_turn (most - turn) w text at ≡ [] → length whole ≡ turn
    count_is is = let none = ap (λ (ms : List Match). length ms) is in omega (arith, none)

    pub count_none : turn < most → find_from w text at ≡ None → length whole ≡ turn
    count_none some none = count_is (turn_none some none)

    pub count_over : most ≤ turn → length whole ≡ turn
    count_over all = count_is (turn_over all)

    module _ (spans : Match) (last : last_of spans (in_turn (most - turn) w text at) ≡ last_of no_match whole) where
      pub last_next : (m : Match) → turn < most → find_from w text at ≡ Some m → last_of m (in_turn (most - (turn + 1)) w text (place_after (bounds m))) ≡ last_of no_match whole
      last_next m some found = sym (ap (last_of spans) (turn_some m some found)) ∙ last

      counted_is : in_turn (most - turn) w text at ≡ [] → counted whole ≡ (turn, spans)
      counted_is is =
          ap (λ (n : ℕ). (n, last_of no_match whole)) (count_is is)
          ∙ ap (λ (m : Match). (turn, m)) (sym last ∙ ap (last_of spans) is)

      pub counted_none : turn < most → find_from w text at ≡ None → counted whole ≡ (turn, spans)
      counted_none some none = counted_is (turn_none some none)

      pub counted_over : most ≤ turn → counted whole ≡ (turn, spans)
      counted_over all = counted_is (turn_over all)
