use Rattle.std.proofs.Common.{◌≡◌, take}
use Rattle.tcl_eval.proofs.values.shared.Given as goal

abbrev pub invariant-loop-value : goal.invariant-loop-value
invariant-loop-value l = l.list ≡ take l.value-index l.values
