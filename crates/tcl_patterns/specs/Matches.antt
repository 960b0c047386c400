-- The matches of a regular pattern in a text: regexp(n), regsub(n).
use Rattle.std.specs.Prelude.{ℕ, zero, suc, ◌+◌, ◌==◌, Bool, false, List, [], ◌∷◌, length, take, drop, min, slice_index_or, codes, Option, Some, None, unwrap_or, pos, Ok, if◌then◌else◌}
use Rattle.exp_match.specs.Written.{Written, find_from}
use Rattle.tcl_results.specs.Front.{has_flag, start_word}
use Rattle.tcl_results.specs.Indices.{index_by, before}
use Rattle.tcl_results.specs.Said.{Said, ◌>>=◌}
use Rattle.tcl_results.specs.Ways.{Match, pattern_of}

-- The bounds of a group. Group 0 is the match. There are none if there is no such group, or if it took no part.
abbrev pub group : ℕ → Match → Option (ℕ × ℕ)
group n m = slice_index_or m n None

-- The start and the end of a match.
abbrev pub bounds : Match → ℕ × ℕ
bounds m = unwrap_or (group 0 m) (0, 0)

-- The place of the next search: the end of the match, or the place after it if the match is empty.
abbrev pub place_after : ℕ × ℕ → ℕ
place_after s = if s.0 == s.1 then s.1 + 1 else s.1

abbrev pub on_match : (ℕ → List Match) → Option Match → List Match
on_match on None = []
on_match on (Some m) = m ∷ on (place_after (bounds m))

-- At most n matches in turn. The first begins at or after a place, each other at or after the place after the one before.
abbrev pub in_turn : ℕ → Written → List ℕ → ℕ → List Match
in_turn zero w text at = []
in_turn (suc n) w text at = on_match (λ next. in_turn n w text next) (find_from w text at)

-- How many matches are sought: all, or one. There are no more than places in the text.
abbrev pub most : Bool → List ℕ → ℕ
most all text = if all then length text + 1 else 1

-- The place that `-start` gives, from 0 to the length. `end` is the length.
abbrev pub start_of : List (List ℕ) → List ℕ → Said ℕ
start_of flags text = index_by (pos (length text)) (start_word false (codes "0") flags) >>= λ z. Ok (min (before z) (length text))

-- The pattern, and the place at which the search begins.
abbrev pub sought : List (List ℕ) → List ℕ → List ℕ → Said (Written × ℕ)
sought flags pattern text =
    start_of flags text >>= λ at. pattern_of (has_flag (codes "-nocase") flags) (has_flag (codes "-lineanchor") flags) pattern >>= λ w. Ok (w, at)

-- The matches that a command with these flags finds.
abbrev pub all_of : List (List ℕ) → List ℕ → Written × ℕ → List Match
all_of flags text p = in_turn (most (has_flag (codes "-all") flags) text) p.0 text p.1

-- The part of a text between two bounds.
abbrev pub part : Option (ℕ × ℕ) → List ℕ → List ℕ
part None text = []
part (Some s) text = drop s.0 (take s.1 text)
