-- The commands of a text (Tcl(n): a script is read command by command).
use Rattle.std.specs.Prelude.{ℕ, zero, suc, List, [], ◌∷◌, length, Option, Some, None, Result, Ok, Err}
use Rattle.tcl_words.specs.declared.faults.WordFault.{WordFault}
use Rattle.tcl_words.specs.Commands.{next_command}
use Rattle.tcl_words.specs.Pieces.{Spelled}
use Rattle.tcl_scripts.specs.declared.script.Reading.{Reading}
use Rattle.tcl_scripts.specs.declared.script.Reading.TheVariants.{Command, Malformed}

-- The command read at an index, followed by the later ones. A malformed command is the last.
abbrev pub and_more : ℕ → Result (Option (List Spelled × ℕ)) WordFault → (ℕ → List Reading) → List Reading
and_more at (Err f) more = Malformed at f ∷ []
and_more at (Ok None) more = []
and_more at (Ok (Some p)) more = Command at p.0 ∷ more p.1

-- At most n commands.
abbrev pub commands_within : ℕ → List ℕ → ℕ → List Reading
commands_within zero source at = []
commands_within (suc n) source at = and_more at (next_command source at) (λ next. commands_within n source next)

-- The commands of a text. Each takes at least one byte.
unfoldable pub commands : List ℕ → List Reading
commands source = commands_within (suc (length source)) source 0
