use Rattle.std.proofs.Common.{◌≡◌, length}
use Rattle.script_check.specs.Faults.{last_stage}
use Rattle.script_check.proofs.faults.last_stage.Given as goal

abbrev pub invariant-loop-rest : goal.invariant-loop-rest
invariant-loop-rest l = last_stage l.stage l.rest ≡ last_stage l.fn.stage l.words

abbrev pub decreases-loop-rest : goal.decreases-loop-rest
decreases-loop-rest l = length l.rest
