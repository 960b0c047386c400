-- A line that is kept byte by byte in a buffer.
use Rattle.std.specs.Prelude.{ℕ, ◌==◌, List, [], ◌∷◌, ◌++◌, Bool, ◌||◌, if◌then◌else◌}
use Rattle.tcl_words.specs.Bytes as ascii
use Rattle.tty.specs.declared.given.Given.{Given}
use Rattle.tty.specs.Editing.{is_empty, ends_line}
use Rattle.tty.specs.Handed.{ends_input, line_action}
use Rattle.tty.specs.Echo.{echo_by}

-- The text without its last byte.
abbrev pub without_last : List ℕ → List ℕ
without_last [] = []
without_last (a ∷ []) = []
without_last (a ∷ b ∷ bs) = a ∷ without_last (b ∷ bs)

-- The byte leaves the line empty.
abbrev pub clears : ℕ → Bool
clears b = ends_line b || b == ascii.kill

abbrev pub text_after : ℕ → List ℕ → List ℕ
text_after b t =
    if clears b then []
    else (if b == ascii.delete then without_last t else t ++ b ∷ [])

-- The line is handed to the program.
abbrev pub handing : ℕ → List ℕ → Given → Given
handing d t g =
    if g.ended then g
    else record g { actions = g.actions ++ line_action d t ∷ []; ended = ends_input d t }

abbrev pub with_line : ℕ → List ℕ → Given → Given
with_line b t g = if ends_line b then handing b t g else g

abbrev pub with_echo : Bool → Bool → ℕ → Given → Given
with_echo on empty b g = if on then record g { echo = g.echo ++ echo_by empty b } else g

-- The actions and the echo after one more byte.
abbrev pub given_after : Bool → ℕ → List ℕ → Given → Given
given_after on b t g = with_echo on (is_empty t) b (with_line b t g)

-- The text, and the actions and the echo, after more bytes.
abbrev pub run : Bool → List ℕ → List ℕ → Given → List ℕ × Given
run on [] t g = (t, g)
run on (b ∷ bs) t g = run on bs (text_after b t) (given_after on b t g)
