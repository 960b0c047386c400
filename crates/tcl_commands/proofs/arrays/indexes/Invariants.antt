use Rattle.std.proofs.Common.{◌≡◌, ◌++◌, map}
use Rattle.tcl_commands.specs.Arrays.{matching, indexes}
use Rattle.tcl_commands.proofs.arrays.indexes.Given as goal

abbrev pub invariant-loop-index : goal.invariant-loop-index
invariant-loop-index l = l.made.items ++ indexes (matching l.pattern (map (λ e. (e.0.items, e.1.now)) l.index-iterator)) ≡ indexes (matching l.pattern l.elements)
