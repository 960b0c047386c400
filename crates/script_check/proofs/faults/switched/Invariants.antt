use Rattle.std.proofs.Common.{◌≡◌, false, length}
use Rattle.script_check.specs.Faults.{switched}
use Rattle.script_check.proofs.faults.switched.Given as goal

abbrev pub invariant-loop-rest : goal.invariant-loop-rest
invariant-loop-rest l = switched l.name l.switches l.n l.due l.rest ≡ switched l.name l.switches l.n false l.args

abbrev pub decreases-loop-rest : goal.decreases-loop-rest
decreases-loop-rest l = length l.rest
