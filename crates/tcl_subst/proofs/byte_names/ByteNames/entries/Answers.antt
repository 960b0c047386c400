use Rattle.std.proofs.Common.{subst}
use Rattle.tcl_subst.specs.Both.{Sorted}
use Rattle.tcl_subst.proofs.Sorted.{sorted_named}
use Rattle.tcl_subst.proofs.byte_names.ByteNames.entries.Goals as goal

pub returns-clause-sorted : goal.returns-clause-sorted
returns-clause-sorted g c = subst Sorted c.self.view_is (sorted_named (λ k. k.items) c.self.inside.tree.entries c.iter.ensures.ordered)
