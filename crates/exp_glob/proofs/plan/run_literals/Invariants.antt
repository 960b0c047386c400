use Rattle.std.proofs.Common.{List, ◌++◌, length}
use Rattle.exp_glob.specs.declared.literal.Literal.{Literal}
use Rattle.exp_glob.specs.Literals.{AreLiterals}
use Rattle.exp_glob.proofs.plan.run_literals.Given as goal

abbrev pub invariant-loop-left : goal.invariant-loop-left
invariant-loop-left l = (more : List Literal) → AreLiterals l.nocase l.left more → AreLiterals l.nocase l.elements (l.made.items ++ more)

abbrev pub decreases-loop-left : goal.decreases-loop-left
decreases-loop-left l = length l.left
