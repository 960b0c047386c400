-- All words of a text, command by command.
use Rattle.std.specs.Prelude.{List, [], ◌∷◌, ◌++◌, Option, Some, None}
use Rattle.tcl_words.specs.declared.faults.WordFault.{WordFault}
use Rattle.tcl_words.specs.Pieces.{Spelled}
use Rattle.tcl_scripts.specs.declared.script.Reading.{Reading}
use Rattle.tcl_scripts.specs.declared.script.Reading.TheVariants.{Command, Malformed}

-- The words in order, up to a malformed command, and its error.
abbrev pub all_words : List Reading → List Spelled × Option WordFault
all_words [] = ([], None)
all_words (Malformed at f ∷ rs) = ([], Some f)
all_words (Command at words ∷ rs) = (words ++ (all_words rs).0, (all_words rs).1)
