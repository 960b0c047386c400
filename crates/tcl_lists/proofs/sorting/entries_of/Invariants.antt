use Rattle.std.proofs.Common.{◌≡◌, drop}
use Rattle.tcl_lists.specs.Sorting.{entries_from}
use Rattle.tcl_lists.proofs.Ordered.{onto}
use Rattle.tcl_lists.proofs.sorting.entries_of.Given as goal

abbrev pub invariant-loop-at : goal.invariant-loop-at
invariant-loop-at l = onto l.made (entries_from l.given l.args l.at (drop l.at l.elements)) ≡ entries_from l.given l.args 0 l.elements
