use Rattle.std.proofs.Common.{ap, ◌∙◌}
use Rattle.tcl_subst.specs.Entries.{is_name, find}
use Rattle.tcl_subst.proofs.Named.{lookup_named}
use Rattle.tcl_subst.proofs.byte_names.ByteNames.get.Goals as goal

pub returns : goal.returns
returns g c = c.get.ensures.value ∙ lookup_named (λ k. k.items) (is_name c.args.name.now) c.self.inside.tree.entries ∙ ap (find c.args.name.now) c.self.view_is
