use Rattle.std.proofs.Common.{◌≡◌, take}
use Rattle.tcl_results.proofs.values.packed.Given as goal

abbrev pub invariant-loop-value : goal.invariant-loop-value
invariant-loop-value l = l.packed ≡ take l.value-index l.values
