use Rattle.std.proofs.Common.{◌≡◌, take, reverse}
use Rattle.tcl_lists.proofs.editing.reversed.Given as goal

abbrev pub invariant-loop-at : goal.invariant-loop-at
invariant-loop-at l = l.made ≡ take l.at (reverse l.elements)
