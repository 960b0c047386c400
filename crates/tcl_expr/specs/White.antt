-- White space in an expression, as in expr(n). A newline is white space, and so is a backslash before a newline.
use Rattle.std.specs.Prelude.{ℕ, ◌+◌, List, drop, if◌then◌else◌}
use Rattle.tcl_words.specs.Course.{reading}
use Rattle.tcl_words.specs.Backslash.{blanks}
use Rattle.tcl_words.specs.Lists.{is_white}
use Rattle.tcl_words.specs.Commands.{is_continued}

abbrev pub white_step : (ℕ → ℕ) → ℕ → List ℕ → ℕ
white_step on b bytes =
    if is_white b then 1 + on 0
    else (if is_continued b bytes then 2 + blanks (drop 1 bytes) + on (1 + blanks (drop 1 bytes))
    else 0)

-- The number of leading bytes of white space.
unfoldable pub white : List ℕ → ℕ
white = reading 0 white_step

-- The index after the white space at an index.
abbrev pub gap : List ℕ → ℕ → ℕ
gap text at = at + white (drop at text)

-- The text without its leading white space.
abbrev pub past : List ℕ → List ℕ
past text = drop (white text) text
