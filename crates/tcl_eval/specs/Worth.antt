-- Expressions with some computed operands.
use Rattle.std.specs.Prelude.{ℕ, List}
use Rattle.tcl_eval.specs.Evaluated.{Evaluated}
use Rattle.tcl_eval.specs.Tree.{State, Tree}
use Rattle.tcl_eval.specs.Meaning.{Next, Eval, fill_parts, value_from}

-- The value of an expression, given the values of some operands.
abbrev pub worth : Eval → Evaluated → Next → (List ℕ → State → Tree) → State → Tree
worth ev e k go st = value_from (fill_parts ev) e.tree e.given k (λ v vs st. go v st) st
