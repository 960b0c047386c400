-- Ranges of a source.
use Rattle.std.specs.Prelude.{ℕ, ◌+◌, ◌-◌, nat_lt, ◌==◌, Bool, false, List, [], ◌∷◌, length, drop, take, if◌then◌else◌}
use Rattle.script_check.specs.declared.span.Span.{Span}

-- The bytes in a range.
abbrev pub part : List ℕ → Span → List ℕ
part source s = take (s.to - s.from) (drop s.from source)

-- The range without its first and its last byte.
abbrev pub inside : Span → Span
inside s = if nat_lt s.from s.to then record { from = s.from + 1; to = s.to - 1 } else s

abbrev pub begins_with : ℕ → List ℕ → Bool
begins_with b [] = false
begins_with b (first ∷ bytes) = first == b

-- The position of a text that ends at `end`.
abbrev pub place : ℕ → List ℕ → ℕ
place end text = end - length text

-- The range from the start of one text to that of a later one. Both end at `end`.
abbrev pub from_to : ℕ → List ℕ → List ℕ → Span
from_to end text later = record { from = place end text; to = place end later }
