-- The lines of a source.
use Rattle.std.specs.Prelude.{ℕ, ◌+◌, ◌==◌, List, count_by}
use Rattle.tcl_words.specs.Bytes as ascii
use Rattle.script_check.specs.declared.span.Span.{Span}
use Rattle.script_check.specs.Stretches.{part}

abbrev pub newlines : List ℕ → Span → ℕ
newlines source s = count_by (λ b. b == ascii.newline) (part source s)

-- The line number of a position, counted from 1.
abbrev pub line_of : List ℕ → ℕ → ℕ
line_of source at = newlines source (record { from = 0; to = at }) + 1
