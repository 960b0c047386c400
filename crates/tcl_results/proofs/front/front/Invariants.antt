use Rattle.std.proofs.Common.{◌≡◌, ◌-◌, take, drop, length}
use Rattle.tcl_results.specs.Front.{front, front_from}
use Rattle.tcl_results.proofs.Fronts.{with_flags}
use Rattle.tcl_results.proofs.front.front.Given as goal

abbrev pub invariant-loop-at : goal.invariant-loop-at
invariant-loop-at l = with_flags (take l.at l.args) (front_from l.allowed l.tail l.due (drop l.at l.args)) ≡ front l.allowed l.tail l.args

abbrev pub decreases-loop-at : goal.decreases-loop-at
decreases-loop-at l = length l.args - l.at
