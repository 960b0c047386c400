-- What a terminal hands to the program of the bytes typed (POSIX.1-2017, XBD 11.1.6 and 11.1.7).
use Rattle.std.specs.Prelude.{ℕ, ◌==◌, List, [], ◌∷◌, ◌++◌, map, Bool, true, false, ◌&&◌, ◌||◌, if◌then◌else◌}
use Rattle.tcl_words.specs.Bytes as ascii
use Rattle.tty.specs.declared.modes.Modes.{Modes}
use Rattle.tty.specs.declared.action.Action.{Action}
use Rattle.tty.specs.declared.action.Action.TheVariants as action
use Rattle.tty.specs.Editing.{is_empty, edited}
use Rattle.tty.specs.Segments.{Segments, rest, line, segments}

-- Under ICRNL, CR becomes NL.
abbrev pub read_byte : Modes → ℕ → ℕ
read_byte m b = if b == ascii.carriage_return && m.icrnl then ascii.newline else b

abbrev pub received : Modes → List ℕ → List ℕ
received m x = map (read_byte m) x

-- An EOF on an empty line ends the input.
abbrev pub ends_input : ℕ → List ℕ → Bool
ends_input d t = d == ascii.end_of_file && is_empty t

-- A line is handed over with its NL, but without its EOF.
abbrev pub line_text : ℕ → List ℕ → List ℕ
line_text d t = if d == ascii.newline then t ++ ascii.newline ∷ [] else t

-- The action for a line with this text that the byte d ends.
abbrev pub line_action : ℕ → List ℕ → Action
line_action d t = if ends_input d t then action.End else action.Write (line_text d t)

-- The actions, the text that waits afterwards, and whether the input has ended.
pub record Handed : Type 0 where
  pub actions : List Action
  pub waiting : List ℕ
  pub ended : Bool

-- Adds an action at the front. After the end of the input there are no actions.
abbrev pub with_action : Bool → Action → Handed → Handed
with_action true a h = h
with_action false a h = record h { actions = a ∷ h.actions }

abbrev pub handed_lines : Bool → Segments → Handed
handed_lines ended (rest t) = record { actions = []; waiting = edited t; ended = ended }
handed_lines ended (line t d s) = with_action ended (line_action d (edited t)) (handed_lines (ended || ends_input d (edited t)) s)

-- One action, if there are bytes to hand over.
abbrev pub at_once : List ℕ → List Action
at_once [] = []
at_once (b ∷ bs) = action.Write (b ∷ bs) ∷ []

-- What is handed over if x is sent while the text w waits. `ended` is true if the input has already ended.
abbrev pub handed : Modes → List ℕ → Bool → List ℕ → Handed
handed m w ended x =
    if m.icanon then handed_lines ended (segments (w ++ received m x))
    else record { actions = at_once (received m x); waiting = w; ended = ended }
