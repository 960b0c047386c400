use Rattle.std.proofs.Common.{◌≡◌, ◌-◌, drop, length}
use Rattle.tcl_control.specs.Choosing.{chosen, case_words}
use Rattle.tcl_control.proofs.choosing.chosen.Given as goal

abbrev pub invariant-loop-alloc : goal.invariant-loop-alloc
invariant-loop-alloc l = chosen l.way l.text (drop l.at (case_words l.cases)) ≡ chosen l.way l.text (case_words l.cases)

abbrev pub decreases-loop-alloc : goal.decreases-loop-alloc
decreases-loop-alloc l = length (case_words l.cases) - l.at
