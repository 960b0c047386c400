-- An expression, and the values of the operands computed so far, in order.
use Rattle.std.specs.Prelude.{ℕ, List, [], ◌∷◌, ◌++◌, refl}
use Rattle.std.specs.Coded.{codes, Coded, code_by, coded_ℕ, coded_list, coded×}
use Rattle.tcl_expr.specs.Built.{tree_of-postfix}
use Rattle.tcl_expr.specs.Codes.{coded_spelled}
use Rattle.tcl_expr.specs.Instr.{Instr, postfix, tree_of}
use Rattle.tcl_expr.specs.Tree.{Tree}

pub record Evaluated : Type 0 where
  pub tree : Tree
  pub given : List (List ℕ)

-- No operand is computed yet.
abbrev pub fresh : Tree → Evaluated
fresh tree = record { tree = tree; given = [] }

-- The same with one more operand.
abbrev pub with_operand : List ℕ → Evaluated → Evaluated
with_operand value e = record { tree = e.tree; given = e.given ++ value ∷ [] }

-- A code that tells trees apart.
pub coded_instrs : Coded (List Instr)
coded_instrs = hlevel (codes, coded_spelled)

abbrev pub coded_tree : Coded Tree
coded_tree = code_by (List Instr) coded_instrs postfix tree_of tree_of-postfix

abbrev pub coded_evaluated : Coded Evaluated
coded_evaluated = code_by (Tree × List (List ℕ)) (coded× coded_tree (coded_list (coded_list coded_ℕ))) (λ e. (e.tree, e.given)) (λ p. record { tree = p.0; given = p.1 }) (λ _. refl)
