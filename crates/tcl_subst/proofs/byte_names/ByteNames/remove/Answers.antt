use Rattle.std.proofs.Common.{ap, subst, ◌∙◌}
use Rattle.tcl_subst.specs.Entries.{is_name, find, without}
use Rattle.tcl_subst.proofs.Named.{named, lookup_named, remove_named}
use Rattle.tcl_subst.specs.Both.{Sorted}
use Rattle.tcl_subst.proofs.Sorted.{sorted_named}
use Rattle.tcl_subst.proofs.byte_names.ByteNames.remove.Goals as goal

pub returns-clause-found : goal.returns-clause-found
returns-clause-found g c = c.remove.ensures.value ∙ lookup_named (λ k. k.items) (is_name c.args.name.now) c.self.inside.tree.entries ∙ ap (find c.args.name.now) c.self.view_is

pub returns-clause-removed : goal.returns-clause-removed
returns-clause-removed g c =
    ap (named (λ k. k.items)) c.remove.ensures.entries ∙ remove_named (λ k. k.items) (is_name c.args.name.now) c.self.inside.tree.entries ∙ ap (without c.args.name.now) c.self.view_is

pub returns-clause-sorted : goal.returns-clause-sorted
returns-clause-sorted g c = subst Sorted c.self.view_is (sorted_named (λ k. k.items) c.self.inside.tree.entries c.len-len.ensures.ordered)
