use Rattle.std.proofs.Common.{◌≡◌, length}
use Rattle.tcl_control.specs.Arms.{tests}
use Rattle.tcl_control.proofs.Armed.{onto_arms}
use Rattle.tcl_control.proofs.arms.read.Given as goal

abbrev pub invariant-arms : goal.invariant-arms
invariant-arms l = onto_arms l.list.items (tests l.words) ≡ tests l.args

abbrev pub decreases-arms : goal.decreases-arms
decreases-arms l = length l.words
