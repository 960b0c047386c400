-- How `regexp` shows a match and its groups (regexp(n)).
use Rattle.std.specs.Prelude.{ℕ, ◌-◌, ◌==◌, Bool, true, false, List, ◌∷◌, ◌++◌, codes, Option, Some, None, if◌then◌else◌}
use Rattle.tcl_words.specs.Bytes as ascii
use Rattle.tcl_patterns.specs.Matches.{part}
use Rattle.tcl_results.specs.Values.{count_text}

-- The index of the last byte before an end, or -1.
abbrev pub last_text : ℕ → List ℕ
last_text to = if to == 0 then codes "-1" else count_text (to - 1)

-- The text of a group, or with `-indices` the indexes of its first and its last byte.
abbrev pub shown : Bool → List ℕ → Option (ℕ × ℕ) → List ℕ
shown false text span = part span text
shown true text None = codes "-1 -1"
shown true text (Some s) = count_text s.0 ++ ascii.space ∷ last_text s.1
