-- The scripts in brackets of a text, and in the operands of an expression. The text ends at a given position of the
-- source.
use Rattle.std.specs.Prelude.{ℕ, ◌-◌, ◌==◌, ◌&&◌, ◌||◌, if◌then◌else◌, List, [], ◌∷◌, ◌++◌, drop, take}
use Rattle.tcl_words.specs.Bytes as ascii
use Rattle.tcl_words.specs.Course.{reading}
use Rattle.tcl_words.specs.Operands.{operand}
use Rattle.script_check.specs.declared.span.Span.{Span}
use Rattle.script_check.specs.Stretches.{place, begins_with, from_to}
use Rattle.script_check.specs.Placed.{taken}

-- The scripts found at a position, followed by those after it and its bytes.
abbrev pub and_behind : (ℕ → List Span) → List Span × ℕ → List Span
and_behind on found = found.0 ++ on found.1

-- The script of a bracket at the front of a text, and the number of bytes after the first one that belong to the token.
abbrev pub bracket_at : ℕ → ℕ → List ℕ → List Span × ℕ
bracket_at end b text =
    if b == ascii.open_bracket then (from_to end (drop 1 text) (drop (taken (operand text) - 2) (drop 1 text)) ∷ [], taken (operand text) - 1)
    else if b == ascii.backslash then ([], 1)
    else if b == ascii.dollar && begins_with ascii.open_brace (drop 1 text) then ([], taken (operand text) - 1)
    else ([], 0)

abbrev pub bracket_step : ℕ → (ℕ → List Span) → ℕ → List ℕ → List Span
bracket_step end on b bytes = and_behind on (bracket_at end b (b ∷ bytes))

unfoldable pub brackets : ℕ → List ℕ → List Span
brackets end = reading [] (bracket_step end)

-- The scripts in an operand, except in braces, and the number of bytes after the first one that belong to the operand.
abbrev pub operand_at : ℕ → ℕ → List ℕ → List Span × ℕ
operand_at end b text =
    if b == ascii.open_brace then ([], taken (operand text) - 1)
    else if b == ascii.quote || b == ascii.dollar || b == ascii.open_bracket then (brackets (place end (drop (taken (operand text)) text)) (take (taken (operand text)) text), taken (operand text) - 1)
    else ([], 0)

abbrev pub operand_step : ℕ → (ℕ → List Span) → ℕ → List ℕ → List Span
operand_step end on b bytes = and_behind on (operand_at end b (b ∷ bytes))

unfoldable pub operands : ℕ → List ℕ → List Span
operands end = reading [] (operand_step end)
