-- The commands of the language by their names, and the exit status that `exit` sets.
use Rattle.std.specs.Prelude.{ℕ, List, [], ◌∷◌, codes, nat_le, Option, Some, None, option_map, Ok, Err, ℤ, pos, negsuc, if◌then◌else◌}
use Rattle.tcl_expr.specs.Number.{number_of}
use Rattle.command_table.specs.declared.commands.TclCommand.{TclCommand}
use Rattle.command_table.specs.declared.commands.TclCommand.TheVariants as tcl
use Rattle.command_table.specs.Commands.{tcl_command, redefinable_command}
use Rattle.tcl_control.specs.declared.verbs.Verb.{Verb}
use Rattle.tcl_control.specs.declared.verbs.Verb.TheVariants.{Plain, If, While, For, Foreach, Proc, Expr, Eval, Catch, Exit, Switch}
use Rattle.tcl_results.specs.Texts.{quoted, wrong_args}
use Rattle.tcl_results.specs.Said.{Said}

abbrev pub as_verb : TclCommand → Verb
as_verb (tcl.Value c) = Plain c
as_verb tcl.If = If
as_verb tcl.While = While
as_verb tcl.For = For
as_verb tcl.Foreach = Foreach
as_verb tcl.Proc = Proc
as_verb tcl.Expr = Expr
as_verb tcl.Eval = Eval
as_verb tcl.Catch = Catch
as_verb tcl.Exit = Exit
as_verb tcl.Switch = Switch

-- A command that no procedure can have the name of.
abbrev pub verb_of : List ℕ → Option Verb
verb_of word = option_map as_verb (tcl_command word)

-- A command by a name that a procedure can have.
abbrev pub redefinable_verb : List ℕ → Option Verb
redefinable_verb word = option_map as_verb (redefinable_command word)

abbrev pub bad_status : List ℕ → List ℕ
bad_status text = quoted (codes "bad exit status ") text

abbrev pub status_of : List ℕ → Option ℤ → Said ℕ
status_of text None = Err (bad_status text)
status_of text (Some (pos n)) = if nat_le n 255 then Ok n else Err (bad_status text)
status_of text (Some (negsuc n)) = Err (bad_status text)

-- exit ?returnCode?
abbrev pub exit_status : List ℕ → List (List ℕ) → Said ℕ
exit_status command [] = Ok 0
exit_status command (n ∷ []) = status_of n (number_of n)
exit_status command (n ∷ other ∷ more) = Err (wrong_args command)
