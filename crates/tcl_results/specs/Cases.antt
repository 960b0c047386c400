-- Comparison of texts, with or without case. Only ASCII letters have case.
use Rattle.std.specs.Prelude.{ℕ, Bool, List, length, map, take, bytes_eq, if◌then◌else◌}
use Rattle.std.specs.Char.{to_ascii_lowercase}

-- A text, in lower case if case is ignored.
abbrev pub folded : Bool → List ℕ → List ℕ
folded nocase text = if nocase then map to_ascii_lowercase text else text

abbrev pub are_same : Bool → List ℕ → List ℕ → Bool
are_same nocase a b = bytes_eq (folded nocase a) (folded nocase b)

-- A text begins with another.
abbrev pub begins_with : List ℕ → List ℕ → Bool
begins_with text front = bytes_eq (take (length front) text) front
