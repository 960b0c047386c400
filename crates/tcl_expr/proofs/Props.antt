-- That an evaluation serves a tree can be proved in one way alone, so that a struct may hold the fact.
use Rattle.std.specs.Coded.{codes, Coded, Coded-set}
use Rattle.tcl_expr.specs.Codes.{coded_spelled}
use Rattle.tcl_expr.specs.declared.progress.Operands.{Operands}
use Rattle.tcl_expr.specs.Tree.{Tree}
use Rattle.tcl_expr.specs.Value.{Valued}
use Rattle.tcl_expr.specs.Run.{Serves}

valued_code : Coded Valued
valued_code = hlevel (codes, coded_spelled)

pub serves_prop : (t : Tree) (log : Operands) → IsProp (Serves t log)
unfolding Serves
serves_prop t log = let s : IsSet Valued = Coded-set valued_code in λ f g i more. s _ _ (f more) (g more) i
