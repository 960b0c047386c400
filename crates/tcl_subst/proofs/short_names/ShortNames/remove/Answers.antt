use Rattle.std.proofs.Common.{ap, subst, ◌∙◌}
use Rattle.tcl_subst.specs.Entries.{is_name, find, without}
use Rattle.tcl_subst.proofs.Named.{named, lookup_named, remove_named}
use Rattle.tcl_subst.specs.Both.{Sorted}
use Rattle.tcl_subst.proofs.Sorted.{sorted_named}
use Rattle.tcl_subst.specs.Shorts.{text_of}
use Rattle.tcl_subst.proofs.short_names.ShortNames.remove.Goals as goal

pub returns-clause-found : goal.returns-clause-found
returns-clause-found g c = c.remove.ensures.value ∙ lookup_named (λ k. text_of k.key) (is_name (text_of c.args.name.now.key)) c.self.inside.tree.entries ∙ ap (find (text_of c.args.name.now.key)) c.self.view_is

pub returns-clause-removed : goal.returns-clause-removed
returns-clause-removed g c =
    ap (named (λ k. text_of k.key)) c.remove.ensures.entries ∙ remove_named (λ k. text_of k.key) (is_name (text_of c.args.name.now.key)) c.self.inside.tree.entries ∙ ap (without (text_of c.args.name.now.key)) c.self.view_is

pub returns-clause-sorted : goal.returns-clause-sorted
returns-clause-sorted g c = subst Sorted c.self.view_is (sorted_named (λ k. text_of k.key) c.self.inside.tree.entries c.len-len.ensures.ordered)
