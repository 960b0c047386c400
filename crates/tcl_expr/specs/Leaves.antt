-- The error of an expression with a malformed word.
use Rattle.std.specs.Prelude.{◌≡◌}
use Rattle.tcl_words.specs.declared.faults.WordFault.{WordFault}
use Rattle.tcl_words.specs.declared.faults.WordFault.TheVariants as words
use Rattle.tcl_expr.specs.declared.faults.ExprFault.{ExprFault}
use Rattle.tcl_expr.specs.declared.faults.ExprFault.TheVariants.{Syntax, Memory}

abbrev pub IsMalformed : WordFault → ExprFault → Type 0
IsMalformed words.Memory fault = fault ≡ Memory
IsMalformed word fault = fault ≡ Syntax
