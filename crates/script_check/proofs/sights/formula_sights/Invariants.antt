use Rattle.std.proofs.Common.{◌≡◌, ◌++◌, length}
use Rattle.script_check.specs.Sights.{formula_sights}
use Rattle.script_check.proofs.sights.formula_sights.Given as goal

abbrev pub invariant-loop-rest : goal.invariant-loop-rest
invariant-loop-rest l = l.out.items ++ formula_sights l.at l.stage l.rest ≡ l.fn.out.items ++ formula_sights l.at l.fn.stage l.args

abbrev pub decreases-loop-rest : goal.decreases-loop-rest
decreases-loop-rest l = length l.rest
