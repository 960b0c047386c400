use Rattle.std.proofs.Common.{◌≡◌, take}
use Rattle.tcl_lists.specs.Editing.{least_size}
use Rattle.tcl_lists.proofs.editing.least_size.Given as goal

abbrev pub invariant-loop-value : goal.invariant-loop-value
invariant-loop-value l = l.size ≡ least_size (take l.value-index l.values)
