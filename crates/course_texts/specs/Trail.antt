-- Where the error that ended a script occurred: a line for each command and procedure that passed it on, innermost
-- first. The last one is a command of the script itself.
use Rattle.std.specs.Prelude.{ℕ, ◌-◌, nat_lt, not, ◌==◌, List, [], ◌∷◌, ◌++◌, length, drop, take, codes, if◌then◌else◌}
use Rattle.std.specs.List.{prefix_len}
use Rattle.tcl_words.specs.Bytes as ascii
use Rattle.script_check.specs.Lines.{line_of}
use Rattle.script_check.specs.Readings.{begin_of}
use Rattle.session.specs.declared.place.ErrorPlace.{ErrorPlace}
use Rattle.session.specs.declared.place.ErrorPlace.TheVariants.{Command, Procedure}
use Rattle.report_texts.specs.Escape.{quoted}
use Rattle.report_texts.specs.Line.{line_text}
use Rattle.report_texts.specs.Report.{labelled}

-- The number of bytes before the end of a line.
unfoldable pub line_len : List ℕ → ℕ
line_len text = prefix_len (λ b. not (b == ascii.newline)) text

-- The first 150 bytes of a line, with dots after them if the line is longer.
abbrev pub shortened : List ℕ → List ℕ
shortened line = if nat_lt 150 (length line) then line_text (take 150 line) ++ codes "..." else line_text line

-- The rest of a script, from the next command at or after this place on.
abbrev pub command_from : List ℕ → ℕ → List ℕ
command_from script at = begin_of (drop at script)

-- A label, the line number at which a command begins, and the text of that line from the command on.
unfoldable pub command_line : List ℕ → List ℕ → List ℕ → List ℕ
command_line label script text =
    labelled label (line_of script (length script - length text)) ++ codes ": " ++ shortened (take (line_len text) text) ++ codes "\n"

-- The words before a procedure's name. They are closed, so that the text of a line stays in pieces.
unfoldable pub in_procedure : List ℕ
in_procedure = codes "  in procedure "

abbrev pub procedure_line : List ℕ → List ℕ
procedure_line name = in_procedure ++ quoted name ++ codes "\n"

abbrev pub place_line : List ℕ → ErrorPlace → List ℕ
place_line label (Command script at) = command_line label script (command_from script at)
place_line label (Procedure name) = procedure_line name

-- The label of lines that are counted from an opening brace.
unfoldable pub line_label : List ℕ
line_label = codes "  line "

-- The label of a command that these places follow.
abbrev pub label_before : List ℕ → List ErrorPlace → List ℕ
label_before last [] = last
label_before last (p ∷ ps) = line_label

-- The lines. `last` is the label of the last one.
abbrev pub place_lines : List ℕ → List ErrorPlace → List ℕ
place_lines last [] = []
place_lines last (p ∷ ps) = place_line (label_before last ps) p ++ place_lines last ps
