use Rattle.std.proofs.Common.{◌≡◌, ◌++◌, length}
use Rattle.tcl_lists.specs.Sorting.{chosen, elements_at}
use Rattle.tcl_lists.proofs.sorting.elements_at.Given as goal

abbrev pub invariant-loop-rest : goal.invariant-loop-rest
invariant-loop-rest l = l.made ++ elements_at l.elements (chosen l.given l.rest) ≡ elements_at l.elements (chosen l.given l.entries)

abbrev pub decreases-loop-rest : goal.decreases-loop-rest
decreases-loop-rest l = length l.rest
