-- A list of matches, one more.
use Rattle.std.proofs.Common.{◌≡◌, ℕ, ◌+◌, ◌-◌, ◌<◌, ◌≤◌, Bool, List, [], ◌∷◌, ◌++◌, Some, None, sym, ap, ◌∙◌, append_assoc, append-nil}
use Rattle.std.specs.List.{flat_map}
use Rattle.exp_match.specs.Written.{Written, find_from}
use Rattle.tcl_patterns.specs.Inlining.{groups_shown}
use Rattle.tcl_results.specs.Ways.{Match}
use Rattle.tcl_patterns.specs.Matches.{bounds, place_after, in_turn}
use Rattle.tcl_patterns.proofs.Turns.{turn_none, turn_some, turn_over}

module _ (w : Written) (text : List ℕ) (indices : Bool) (count most turn at : ℕ) (made whole : List (List ℕ))
    (was : made ++ flat_map (groups_shown indices text count) (in_turn (most - turn) w text at) ≡ whole) where
  abbrev show : Match → List (List ℕ)
  show = groups_shown indices text count

  ended : in_turn (most - turn) w text at ≡ [] → made ≡ whole
  ended is = sym (append-nil made) ∙ ap (λ (ms : List Match). made ++ flat_map show ms) (sym is) ∙ was

  pub list_none : turn < most → find_from w text at ≡ None → made ≡ whole
  list_none some none = ended (turn_none w text most turn at some none)

  pub list_over : most ≤ turn → made ≡ whole
  list_over over = ended (turn_over w text most turn at over)

  pub list_next : (m : Match) (new : List (List ℕ)) → turn < most → find_from w text at ≡ Some m → new ≡ made ++ groups_shown indices text count m
      → new ++ flat_map (groups_shown indices text count) (in_turn (most - (turn + 1)) w text (place_after (bounds m))) ≡ whole
  list_next m new some found is =
      let more = flat_map show (in_turn (most - (turn + 1)) w text (place_after (bounds m))) in
      ap (λ (l : List (List ℕ)). l ++ more) is
      ∙ append_assoc made (show m) more
      ∙ ap (λ (ms : List Match). made ++ flat_map show ms) (sym (turn_some w text most turn at m some found))
      ∙ was
