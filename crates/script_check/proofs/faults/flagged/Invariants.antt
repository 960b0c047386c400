use Rattle.std.proofs.Common.{◌≡◌, false, length}
use Rattle.script_check.specs.Faults.{flagged}
use Rattle.script_check.proofs.faults.flagged.Given as goal

abbrev pub invariant-loop-rest : goal.invariant-loop-rest
invariant-loop-rest l = flagged l.name l.flags l.count l.due l.rest ≡ flagged l.name l.flags l.count false l.args

abbrev pub decreases-loop-rest : goal.decreases-loop-rest
decreases-loop-rest l = length l.rest
