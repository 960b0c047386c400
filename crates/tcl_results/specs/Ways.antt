-- Regular patterns, and the bounds of a match.
use Rattle.std.specs.Prelude.{ℕ, Bool, List, replicate, Option, None, Ok, Err, if◌then◌else◌}
use Rattle.exp_match.specs.Scan.{is_pattern}
use Rattle.exp_match.specs.Written.{Written}
use Rattle.tcl_results.specs.Said.{Said}
use Rattle.tcl_results.specs.Texts.{bad_regular}

-- The pattern that a text is, with or without case, and with anchors at lines or only at the ends.
abbrev pub pattern_of : Bool → Bool → List ℕ → Said Written
pattern_of nocase lines text = if is_pattern text then Ok (record { source = text; nocase = nocase; lines = lines }) else Err (bad_regular text)

-- The bounds of a match and of its groups 1 to 9.
abbrev pub Match : Type 0
Match = List (Option (ℕ × ℕ))

-- No group took part.
abbrev pub no_match : Match
no_match = replicate 10 None
