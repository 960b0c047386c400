use Rattle.std.proofs.Common.{◌≡◌, ◌++◌, ◌-◌, length, take}
use Rattle.tcl_host.proofs.values.push_elements.Given as goal

abbrev pub invariant-loop-value : goal.invariant-loop-value
invariant-loop-value l = l.list.items ≡ l.initial.list.items ++ take l.at l.elements

abbrev pub decreases-loop-value : goal.decreases-loop-value
decreases-loop-value l = length l.elements - l.at
