-- The texts of findings: those of the errors that a run would end with.
use Rattle.std.specs.Prelude.{ℕ, List, [], ◌∷◌, ◌++◌, codes}
use Rattle.tcl_expr.specs.declared.faults.ExprFault.TheVariants as expr
use Rattle.tcl_results.specs.Texts.{quoted, wrong_args, bad_option, too_deep, word_fault, expr_fault}
use Rattle.script_check.specs.declared.problem.Problem.{Problem}
use Rattle.script_check.specs.declared.problem.Problem.TheVariants.{Malformed, NoCommand, WrongArgs, BadOption, BadFlag, BadExpectFlag, BadRegular, BadExpression, DeepExpression, TooDeep}
use Rattle.command_table.specs.Advice.{advice_for}

-- The advice on what to use instead of a command follows the text of its error.
abbrev pub instead_text : List ℕ → List ℕ → List ℕ
instead_text text [] = text
instead_text text (b ∷ bytes) = (text ++ codes ": ") ++ b ∷ bytes

abbrev pub no_command : List ℕ → List ℕ
no_command name = instead_text (quoted (codes "invalid command name ") name) (advice_for name)

abbrev pub text_of : Problem → List ℕ
text_of (Malformed fault) = word_fault fault
text_of (NoCommand name) = no_command name
text_of (WrongArgs name) = wrong_args name
text_of (BadOption word) = bad_option word
text_of (BadFlag word) = quoted (codes "bad flag ") word
text_of (BadExpectFlag word) = quoted (codes "bad expect flag ") word
text_of (BadRegular pattern) = quoted (codes "bad regular expression ") pattern
text_of (BadExpression text) = expr_fault text expr.Syntax
text_of DeepExpression = expr_fault [] expr.TooDeep
text_of TooDeep = too_deep
