use Rattle.std.proofs.Common.{◌≡◌, ◌++◌, length}
use Rattle.script_check.specs.Brackets.{brackets}
use Rattle.script_check.proofs.brackets.brackets.Given as goal

abbrev pub invariant-loop-rest : goal.invariant-loop-rest
invariant-loop-rest l = l.out.items ++ brackets l.end l.rest ≡ l.fn.out.items ++ brackets l.end l.text

abbrev pub decreases-loop-rest : goal.decreases-loop-rest
decreases-loop-rest l = length l.rest
