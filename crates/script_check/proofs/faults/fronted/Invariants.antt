use Rattle.std.proofs.Common.{◌≡◌, false, length}
use Rattle.script_check.specs.Faults.{fronted}
use Rattle.script_check.proofs.faults.fronted.Given as goal

abbrev pub invariant-loop-rest : goal.invariant-loop-rest
invariant-loop-rest l = fronted l.name l.switches l.count l.due l.rest ≡ fronted l.name l.switches l.count false l.args

abbrev pub decreases-loop-rest : goal.decreases-loop-rest
decreases-loop-rest l = length l.rest
