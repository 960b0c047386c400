-- The modes of a terminal, as words of stty(1) set them (POSIX.1-2017, XCU stty and XBD chapter 11). Only the words
-- listed here are known.
use Rattle.std.specs.Prelude.{ℕ, ◌+◌, ◌==◌, List, [], ◌∷◌, codes, Bool, true, false, not, ◌||◌, if◌then◌else◌, Option, Some, None, Result, Ok, Err, is_some}
use Rattle.std.specs.Str.{bytes_eq}
use Rattle.tcl_words.specs.Bytes as ascii
use Rattle.tty.specs.declared.modes.Modes.{Modes}
use Rattle.tty.specs.declared.modes.BadMode.{BadMode}
use Rattle.tcl_expr.specs.Number.{number_of}

-- The initial modes: all on.
abbrev pub sane : Modes
sane = record { icanon = true; echo = true; icrnl = true; opost = true; onlcr = true }

-- The modes that `raw -echo` sets.
abbrev pub bare : Modes
bare = record { icanon = false; echo = false; icrnl = false; opost = false; onlcr = true }

-- The modes after `cooked`, or with `false` after its opposite `raw`.
abbrev pub cooked : Bool → Modes → Modes
cooked on m = record m { icanon = on; icrnl = on; opost = on }

-- The modes after a name is set, or with `false` cleared. `None` if the name is unknown.
abbrev pub switched : List ℕ → Bool → Modes → Option Modes
switched name on m =
    if bytes_eq name (codes "icanon") then Some (record m { icanon = on })
    else if bytes_eq name (codes "echo") then Some (record m { echo = on })
    else if bytes_eq name (codes "icrnl") then Some (record m { icrnl = on })
    else if bytes_eq name (codes "opost") then Some (record m { opost = on })
    else if bytes_eq name (codes "onlcr") then Some (record m { onlcr = on })
    else if bytes_eq name (codes "raw") then Some (cooked (not on) m)
    else None

-- The modes after a single word. `None` if the word is bad. A minus sign clears a mode.
abbrev pub set_by : List ℕ → Modes → Option Modes
set_by [] m = None
set_by (b ∷ bs) m =
    if b == ascii.minus then switched bs false m
    else if bytes_eq (b ∷ bs) (codes "cooked") then Some (cooked true m)
    else if bytes_eq (b ∷ bs) (codes "sane") then Some sane
    else switched (b ∷ bs) true m

-- The word must be followed by a number. Both change no mode.
abbrev pub names_size : List ℕ → Bool
names_size w = bytes_eq w (codes "rows") || bytes_eq w (codes "cols") || bytes_eq w (codes "columns")

-- The word with this index is bad.
abbrev pub bad : ℕ → Result Modes BadMode
bad at = Err (record { at = at })

-- Applies further words to the modes after one word.
abbrev pub then_words : ℕ → Option Modes → (Modes → Result Modes BadMode) → Result Modes BadMode
then_words at None more = bad at
then_words at (Some m) more = more m

-- The modes after these words, or the index of the first bad one. `at` is the index of the first of these words. `size`
-- is the index of a word that still needs its number.
abbrev pub read_words : Option ℕ → ℕ → List (List ℕ) → Modes → Result Modes BadMode
read_words None at [] m = Ok m
read_words None at (w ∷ ws) m =
    if names_size w then read_words (Some at) (at + 1) ws m
    else then_words at (set_by w m) (read_words None (at + 1) ws)
read_words (Some size) at [] m = bad size
read_words (Some size) at (w ∷ ws) m = if is_some (number_of w) then read_words None (at + 1) ws m else bad size

-- Applies the words from left to right to the initial modes.
abbrev pub read : List (List ℕ) → Result Modes BadMode
read words = read_words None 0 words sane
