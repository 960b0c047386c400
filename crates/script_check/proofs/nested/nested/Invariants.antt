use Rattle.std.proofs.Common.{◌≡◌, ◌++◌, length}
use Rattle.script_check.specs.Nested.{nested}
use Rattle.script_check.proofs.nested.nested.Given as goal

abbrev pub invariant-loop-rest : goal.invariant-loop-rest
invariant-loop-rest l = l.out.items ++ nested l.source l.stage l.rest ≡ l.fn.out.items ++ nested l.source l.fn.stage l.args

abbrev pub decreases-loop-rest : goal.decreases-loop-rest
decreases-loop-rest l = length l.rest
