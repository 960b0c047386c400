use Rattle.std.proofs.Common.{◌≡◌, [], length}
use Rattle.script_check.specs.Findings.{names_of}
use Rattle.script_check.proofs.findings.names_of.Given as goal

abbrev pub invariant-loop-rest : goal.invariant-loop-rest
invariant-loop-rest l = names_of l.names l.rest ≡ names_of [] l.sights

abbrev pub decreases-loop-rest : goal.decreases-loop-rest
decreases-loop-rest l = length l.rest
