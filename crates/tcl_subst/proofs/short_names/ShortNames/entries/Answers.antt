use Rattle.std.proofs.Common.{subst}
use Rattle.tcl_subst.specs.Both.{Sorted}
use Rattle.tcl_subst.specs.Shorts.{text_of}
use Rattle.tcl_subst.proofs.Sorted.{sorted_named}
use Rattle.tcl_subst.proofs.short_names.ShortNames.entries.Goals as goal

pub returns-clause-sorted : goal.returns-clause-sorted
returns-clause-sorted g c = subst Sorted c.self.view_is (sorted_named (λ k. text_of k.key) c.self.inside.tree.entries c.iter.ensures.ordered)
