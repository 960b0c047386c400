-- The command subst (Tcl(n): subst). It replaces backslashes and variables as in a word in quotes.
use Rattle.std.specs.Prelude.{ℕ, List, [], drop, Result, Ok, Err}
use Rattle.tcl_words.specs.declared.faults.WordFault.{WordFault}
use Rattle.tcl_words.specs.Pieces.{Pieces}
use Rattle.tcl_words.specs.Commands.{text_parts}
use Rattle.command_table.specs.declared.switches.Switches.TheVariants.{Substitute}
use Rattle.tcl_subst.specs.declared.whole.Filled.{Filled}
use Rattle.tcl_subst.specs.declared.whole.Filled.TheVariants.{Value, Fault, Script}
use Rattle.tcl_subst.specs.Filled.{filled}
use Rattle.tcl_subst.specs.Filling.{fill}
use Rattle.tcl_subst.specs.Variables.{Variables}
use Rattle.tcl_results.specs.Given.{arg}
use Rattle.tcl_results.specs.Said.{Said, ◌>>=◌}
use Rattle.tcl_results.specs.Switches.{flags_of}
use Rattle.tcl_results.specs.Texts.{not_read, word_fault}

-- The value, or why a variable can't be read. No script stands in the text.
abbrev pub said_of : Filled → Said (List ℕ)
said_of (Value value) = Ok value
said_of (Fault f name) = Err (not_read name f)
said_of Script = Ok []

-- The text is read as a whole before any variable is.
abbrev pub parts_said : Result Pieces WordFault → Variables → Said (List ℕ)
parts_said (Ok ps) vars = said_of (filled (fill ps vars))
parts_said (Err f) vars = Err (word_fault f)

abbrev pub text_said : List ℕ → Variables → Said (List ℕ)
text_said text vars = parts_said (text_parts text) vars

-- subst -nocommands string
abbrev pub substituted : List ℕ → List (List ℕ) → Variables → Said (List ℕ)
substituted command args vars = flags_of Substitute 1 command args >>= λ p. text_said (arg 0 (drop p.1 args)) vars
