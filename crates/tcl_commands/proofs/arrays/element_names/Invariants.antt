use Rattle.std.proofs.Common.{◌≡◌, map, take}
use Rattle.tcl_subst.specs.Filling.{element_name}
use Rattle.tcl_commands.proofs.arrays.element_names.Given as goal

abbrev pub invariant-loop-index : goal.invariant-loop-index
invariant-loop-index l = l.made.items ≡ map (element_name l.name) (take l.index-index l.indexes)
