use Rattle.std.proofs.Common.{◌≡◌, length}
use Rattle.script_check.specs.Placed.{behind_bare}
use Rattle.script_check.proofs.placed.behind_bare.Given as goal

abbrev pub invariant-loop-rest : goal.invariant-loop-rest
invariant-loop-rest l = behind_bare l.rest ≡ behind_bare l.bytes

abbrev pub decreases-loop-rest : goal.decreases-loop-rest
decreases-loop-rest l = length l.rest
