-- Makes a complete log of a record of a run that was cut off at any byte.
use Rattle.std.specs.Prelude.{ℕ, ◌-◌, ◌==◌, List, [], ◌∷◌, ◌++◌, Bool, if◌then◌else◌, is_none}
use Rattle.std.specs.List.{count_by}
use Rattle.tcl_words.specs.Bytes as ascii
use Rattle.child_events.specs.Log.{total_line}
use Rattle.child_events.specs.Reading.{first_fault}

-- Adds a byte at the front of the kept bytes. Before no kept bytes, only a newline is kept.
abbrev pub kept : ℕ → List ℕ → List ℕ
kept b [] = if b == ascii.newline then b ∷ [] else []
kept b (c ∷ cs) = b ∷ c ∷ cs

-- The bytes up to and including the last newline, or no bytes if there is no newline.
abbrev pub whole : List ℕ → List ℕ
whole [] = []
whole (b ∷ bs) = kept b (whole bs)

-- The number of newlines.
abbrev pub lines : List ℕ → ℕ
lines bytes = count_by (λ b. b == ascii.newline) bytes

-- The bytes are a log: no line has an error.
unfoldable pub is_log : List ℕ → Bool
is_log bytes = is_none (first_fault bytes)

-- The complete lines, if they are a log, and otherwise these lines with a total appended. The first line is the
-- heading, so the total is one less than the number of lines.
abbrev pub mended : List ℕ → List ℕ
mended bytes = if is_log (whole bytes) then whole bytes else whole bytes ++ total_line (lines bytes - 1)
