use Rattle.std.proofs.Common.{◌≡◌, ◌++◌, length}
use Rattle.script_check.specs.Brackets.{operands}
use Rattle.script_check.proofs.brackets.operands.Given as goal

abbrev pub invariant-loop-rest : goal.invariant-loop-rest
invariant-loop-rest l = l.out.items ++ operands l.end l.rest ≡ l.fn.out.items ++ operands l.end l.text

abbrev pub decreases-loop-rest : goal.decreases-loop-rest
decreases-loop-rest l = length l.rest
