-- The list of matches (regexp(n): -inline).
use Rattle.std.specs.Prelude.{ℕ, ◌+◌, nat_lt, Bool, List, length, take, map, codes, Ok, Err, if◌then◌else◌}
use Rattle.std.specs.List.{flat_map}
use Rattle.tcl_words.specs.Lists.{written}
use Rattle.tcl_results.specs.Front.{has_flag}
use Rattle.tcl_results.specs.Given.{arg}
use Rattle.tcl_results.specs.Ways.{Match}
use Rattle.tcl_patterns.specs.Matches.{sought, all_of}
use Rattle.tcl_patterns.specs.Parens.{group_count}
use Rattle.tcl_results.specs.Said.{Said, ◌>>=◌, limited}
use Rattle.tcl_patterns.specs.Shown.{shown}

-- A match and its groups, of which there are `count` in all.
abbrev pub groups_shown : Bool → List ℕ → ℕ → Match → List (List ℕ)
groups_shown indices text count m = map (shown indices text) (take count m)

abbrev pub names_refused : List ℕ
names_refused = codes "regexp match variables not allowed when using -inline"

-- The match, and each group of the pattern, one match after another.
abbrev pub listed : List (List ℕ) → List ℕ → List ℕ → Said (List ℕ)
listed flags pattern text =
    sought flags pattern text >>= λ p. limited (written (flat_map (groups_shown (has_flag (codes "-indices") flags) text (group_count pattern + 1)) (all_of flags text p)))

-- There must be no names.
abbrev pub inlined : List (List ℕ) → List (List ℕ) → Said (List ℕ)
inlined flags words = if nat_lt 2 (length words) then Err names_refused else listed flags (arg 0 words) (arg 1 words)
