-- What a terminal echoes (POSIX.1-2017, XBD 11.2.5: ECHO, with ECHOE and ECHOK on).
use Rattle.std.specs.Prelude.{ℕ, ◌==◌, List, [], ◌∷◌, ◌++◌, Bool, if◌then◌else◌}
use Rattle.tcl_words.specs.Bytes as ascii
use Rattle.tty.specs.declared.modes.Modes.{Modes}
use Rattle.tty.specs.Editing.{is_empty}
use Rattle.tty.specs.Segments.{open_text}
use Rattle.tty.specs.Handed.{received}

-- The echo of a byte. `empty` is true if the line has no text so far.
abbrev pub echo_by : Bool → ℕ → List ℕ
echo_by empty b =
    if b == ascii.delete then (if empty then [] else ascii.backspace ∷ ascii.space ∷ ascii.backspace ∷ [])
    else (if b == ascii.kill then ascii.kill ∷ ascii.newline ∷ []
    else (if b == ascii.end_of_file then [] else b ∷ []))

-- The echo of bytes that follow others.
abbrev pub echo_behind : List ℕ → List ℕ → List ℕ
echo_behind before [] = []
echo_behind before (b ∷ bs) = echo_by (is_empty (open_text before)) b ++ echo_behind (before ++ b ∷ []) bs

-- The echo of the bytes x, sent while the text w waits.
abbrev pub echo_text : Modes → List ℕ → List ℕ → List ℕ
echo_text m w x =
    if m.echo then (if m.icanon then echo_behind w (received m x) else received m x)
    else []
