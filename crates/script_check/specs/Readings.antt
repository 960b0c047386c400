-- The commands of a script, with their positions in the source (Tcl(n): a script is read command by command).
use Rattle.std.specs.Prelude.{ℕ, ◌-◌, true, List, [], ◌∷◌, Option, Some, None, Result, Ok, Err}
use Rattle.tcl_words.specs.declared.faults.WordFault.{WordFault}
use Rattle.tcl_words.specs.Course.{reading}
use Rattle.tcl_words.specs.Commands.{next_command}
use Rattle.tcl_words.specs.Pieces.{Spelled}
use Rattle.script_check.specs.declared.span.Span.{Span}
use Rattle.script_check.specs.declared.placed.Lead.TheVariants.{White}
use Rattle.script_check.specs.declared.readings.Reading.{Reading}
use Rattle.script_check.specs.declared.readings.Reading.TheVariants.{Command, Malformed}
use Rattle.script_check.specs.Stretches.{part, place}
use Rattle.script_check.specs.Placed.{behind_gap, placed}

-- The rest from the start of the next command on.
abbrev pub begin_of : List ℕ → List ℕ
begin_of text = behind_gap true White text

abbrev pub command_in : ℕ → List ℕ → List Spelled → Reading
command_in end text words = Command (place end (begin_of text)) (placed end words (begin_of text))

-- A command, followed by the later ones. A malformed command is the last.
abbrev pub and_more : ℕ → List ℕ → (ℕ → List Reading) → Result (Option (List Spelled × ℕ)) WordFault → List Reading
and_more end text on (Err f) = Malformed (place end (begin_of text)) f ∷ []
and_more end text on (Ok None) = []
and_more end text on (Ok (Some p)) = command_in end text p.0 ∷ on (p.1 - 1)

abbrev pub readings_step : ℕ → (ℕ → List Reading) → ℕ → List ℕ → List Reading
readings_step end on b bytes = and_more end (b ∷ bytes) on (next_command (b ∷ bytes) 0)

-- The commands of a text that ends at a given position of the source.
unfoldable pub readings : ℕ → List ℕ → List Reading
readings end = reading [] (readings_step end)

-- The commands of the script in a range of the source.
abbrev pub readings_in : List ℕ → Span → List Reading
readings_in source s = readings s.to (part source s)
