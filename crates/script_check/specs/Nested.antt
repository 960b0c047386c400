-- The scripts in the words of a command: arguments that are scripts, and scripts in brackets.
use Rattle.std.specs.Prelude.{ℕ, Bool, ◌&&◌, List, [], ◌∷◌, ◌++◌, length, drop, Option, Some, None, option_and_then, Result, Ok, Err, bytes_eq, if◌then◌else◌}
use Rattle.std.specs.List.{list_any}
use Rattle.tcl_words.specs.Bytes as ascii
use Rattle.tcl_expr.specs.declared.faults.ExprFault.{ExprFault}
use Rattle.tcl_expr.specs.Tree.{Tree}
use Rattle.tcl_expr.specs.Grammar.{parsed}
use Rattle.command_table.specs.declared.commands.Command.{Command}
use Rattle.command_table.specs.declared.reading.Kind.{Kind}
use Rattle.command_table.specs.declared.reading.Kind.TheVariants.{Text, Name, Script, Expression}
use Rattle.command_table.specs.declared.reading.Stage.{Stage}
use Rattle.command_table.specs.Commands.{command_of}
use Rattle.command_table.specs.Reading.{texts, step, begin}
use Rattle.command_table.specs.Rows.{row_of}
use Rattle.script_check.specs.declared.span.Span.{Span}
use Rattle.script_check.specs.declared.placed.Placed.{Placed}
use Rattle.script_check.specs.Placed.{mark}
use Rattle.script_check.specs.Stretches.{part, inside, begins_with}
use Rattle.script_check.specs.Brackets.{brackets, operands}
use Rattle.script_check.specs.Expects.{is_braced}

abbrev pub brackets_in : List ℕ → Span → List Span
brackets_in source s = brackets s.to (part source s)

-- The brackets of an expression are in its operands, except in those in braces. An expression that doesn't parse isn't
-- searched.
abbrev pub formula_brackets : List ℕ → Span → Result Tree ExprFault → List Span
formula_brackets source s (Err fault) = []
formula_brackets source s (Ok tree) = operands s.to (part source s)

abbrev pub formula_scripts : List ℕ → Span → Option (List ℕ) → List Span
formula_scripts source s None = []
formula_scripts source s (Some text) = formula_brackets source s (parsed text)

-- Nothing is substituted in braces, with or without `{*}` before them.
abbrev pub is_enclosed : List ℕ → Placed → Bool
is_enclosed source w = begins_with ascii.open_brace (drop (mark w.expand) (part source w.span))

-- A script without braces, if the source contains it literally.
abbrev pub written_at : List ℕ → Span → List ℕ → Option Span
written_at source s text =
    if bytes_eq (part source s) text then Some s
    else if begins_with ascii.quote (part source s) && bytes_eq (part source (inside s)) text then Some (inside s)
    else None

-- The range of the script that a word is.
abbrev pub script_at : List ℕ → Placed → Option Span
script_at source w = if is_braced source w then Some (inside w.span) else option_and_then (written_at source w.span) w.value

abbrev pub script_or_brackets : List ℕ → Span → Option Span → List Span
script_or_brackets source s None = brackets_in source s
script_or_brackets source s (Some script) = script ∷ []

-- The scripts in a word, by the kind of the word.
abbrev pub word_scripts : List ℕ → Placed → Kind → List Span
word_scripts source w Script = script_or_brackets source w.span (script_at source w)
word_scripts source w Name = if is_enclosed source w then [] else brackets_in source w.span
word_scripts source w Text = if is_enclosed source w then [] else brackets_in source w.span
word_scripts source w Expression = if is_braced source w then formula_scripts source (inside w.span) w.value else brackets_in source w.span

-- The scripts in arguments.
abbrev pub nested : List ℕ → Stage → List Placed → List Span
nested source s [] = []
nested source s (w ∷ ws) = word_scripts source w (step s w.value).0 ++ nested source (step s w.value).1 ws

-- A word after `{*}` stands for an unknown number of words.
abbrev pub any_expanded : List Placed → Bool
any_expanded = list_any (λ w. w.expand)

abbrev pub stage_by : List Placed → Option Command → Stage
stage_by args None = texts
stage_by args (Some c) = if any_expanded args then texts else begin (row_of c).words (length args)

abbrev pub stage_for : Option (List ℕ) → List Placed → Stage
stage_for name args = stage_by args (option_and_then command_of name)

-- The scripts in the words of a command, in order.
abbrev pub scripts_of : List ℕ → List Placed → List Span
scripts_of source [] = []
scripts_of source (name ∷ args) = word_scripts source name Text ++ nested source (stage_for name.value args) args
