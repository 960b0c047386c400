-- What is in a script and in the scripts nested in it: errors and procedure definitions.
use Rattle.std.specs.Prelude.{ℕ, zero, suc, List, [], ◌∷◌, ◌++◌, length, Option, Some, None, option_map, option_to_list, is_some, Result, Ok, Err, if◌then◌else◌}
use Rattle.std.specs.List.{flat_map}
use Rattle.tcl_expr.specs.declared.faults.ExprFault.{ExprFault}
use Rattle.tcl_expr.specs.declared.faults.ExprFault.TheVariants as expr
use Rattle.tcl_expr.specs.Tree.{Tree}
use Rattle.tcl_expr.specs.Grammar.{parsed}
use Rattle.command_table.specs.declared.commands.Command.{Command as Commands}
use Rattle.command_table.specs.declared.commands.Command.TheVariants.{Tcl}
use Rattle.command_table.specs.declared.commands.TclCommand.TheVariants as tcl
use Rattle.command_table.specs.declared.reading.Kind.{Kind}
use Rattle.command_table.specs.declared.reading.Kind.TheVariants.{Expression}
use Rattle.command_table.specs.declared.reading.Stage.{Stage}
use Rattle.command_table.specs.Commands.{is_redefinable, command_of}
use Rattle.command_table.specs.Reading.{step, begin}
use Rattle.command_table.specs.Rows.{row_of}
use Rattle.script_check.specs.declared.span.Span.{Span}
use Rattle.script_check.specs.declared.placed.Placed.{Placed}
use Rattle.script_check.specs.declared.problem.Finding.{Finding}
use Rattle.script_check.specs.declared.problem.Problem.{Problem}
use Rattle.script_check.specs.declared.problem.Problem.TheVariants.{Malformed as Broken, NoCommand, BadExpression, DeepExpression, TooDeep}
use Rattle.script_check.specs.declared.readings.Reading.{Reading}
use Rattle.script_check.specs.declared.readings.Reading.TheVariants.{Command, Malformed}
use Rattle.script_check.specs.declared.sights.Sight.{Sight}
use Rattle.script_check.specs.declared.sights.Sight.TheVariants.{Defines, Finds, Unless}
use Rattle.script_check.specs.Expects.{list_of, spread_by}
use Rattle.script_check.specs.Faults.{fault_of}
use Rattle.script_check.specs.Nested.{any_expanded, scripts_of}
use Rattle.script_check.specs.Readings.{readings_in}

-- The command at this position has a problem.
abbrev pub found : ℕ → Problem → List Sight
found at p = Finds (record { at = at; what = p }) ∷ []

-- The command at this position has a problem, unless a procedure has this name.
abbrev pub doubted : List ℕ → ℕ → Problem → List Sight
doubted name at p = Unless name (record { at = at; what = p }) ∷ []

-- A problem of a command. A procedure can have the name of some commands.
abbrev pub found_in : List ℕ → ℕ → Problem → List Sight
found_in name at p = if is_redefinable name then doubted name at p else found at p

-- A text that is read as an expression.
abbrev pub by_parse : ℕ → List ℕ → Result Tree ExprFault → List Sight
by_parse at text (Ok tree) = []
by_parse at text (Err expr.TooDeep) = found at DeepExpression
by_parse at text (Err fault) = found at (BadExpression text)

abbrev pub parse_sight : ℕ → Option (List ℕ) → List Sight
parse_sight at None = []
parse_sight at (Some text) = by_parse at text (parsed text)

abbrev pub formula_sight : ℕ → Option (List ℕ) → Kind → List Sight
formula_sight at value Expression = parse_sight at value
formula_sight at value other = []

-- The expressions among arguments.
abbrev pub formula_sights : ℕ → Stage → List Placed → List Sight
formula_sights at s [] = []
formula_sights at s (w ∷ ws) = formula_sight at w.value (step s w.value).0 ++ formula_sights at (step s w.value).1 ws

-- Expressions are checked if the arguments are correct otherwise.
abbrev pub by_fault : List ℕ → ℕ → Stage → List Placed → Option Problem → List Sight
by_fault name at s args (Some p) = found_in name at p
by_fault name at s args None = formula_sights at s args

abbrev pub judged : ℕ → Commands → List ℕ → List Placed → List Sight
judged at c name args = if any_expanded args then [] else by_fault name at (begin (row_of c).words (length args)) args (fault_of c name args)

-- The procedure that a `proc` defines.
abbrev pub defined : Commands → List Placed → List Sight
defined (Tcl tcl.Proc) (name ∷ args) = option_to_list (option_map Defines name.value)
defined other args = []

abbrev pub by_command : ℕ → List ℕ → List Placed → Option Commands → List Sight
by_command at name args None = doubted name at (NoCommand name)
by_command at name args (Some c) = judged at c name args ++ defined c args

abbrev pub named : ℕ → List Placed → Option (List ℕ) → List Sight
named at args None = []
named at args (Some name) = by_command at name args (command_of name)

-- The errors and definitions of a command itself. A command whose first word isn't literal isn't checked.
abbrev pub own : ℕ → List Placed → List Sight
own at [] = []
own at (name ∷ args) = named at args name.value

-- The errors and definitions of a command, followed by those of the scripts in its words. `inner` gives the latter.
abbrev pub command_sights : (Span → List Sight) → List ℕ → ℕ → List Placed × Option Finding → List Sight
command_sights inner source at spread = own at spread.0 ++ flat_map inner (scripts_of source spread.0) ++ option_to_list (option_map Finds spread.1)

-- The arguments of an `expect` may be given as one list.
abbrev pub reading_sights : (Span → List Sight) → List ℕ → Reading → List Sight
reading_sights inner source (Malformed at f) = found at (Broken f)
reading_sights inner source (Command at words) = command_sights inner source at (spread_by source words (list_of source words))

-- The errors and definitions of a script. `depth` is how many more scripts may nest.
unfoldable pub sights : ℕ → List ℕ → Span → List Sight
sights zero source s = found s.from TooDeep
sights (suc depth) source s = flat_map (reading_sights (sights depth source) source) (readings_in source s)
