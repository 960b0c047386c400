use Rattle.std.proofs.Common.{◌≡◌, length}
use Rattle.script_check.specs.declared.placed.Lead.TheVariants.{White}
use Rattle.script_check.specs.Placed.{behind_gap}
use Rattle.script_check.proofs.placed.behind_gap.Given as goal

abbrev pub invariant-loop-rest : goal.invariant-loop-rest
invariant-loop-rest l = behind_gap l.first l.lead l.rest ≡ behind_gap l.first White l.bytes

abbrev pub decreases-loop-rest : goal.decreases-loop-rest
decreases-loop-rest l = length l.rest
