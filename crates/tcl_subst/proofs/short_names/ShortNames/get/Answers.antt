use Rattle.std.proofs.Common.{ap, ◌∙◌}
use Rattle.tcl_subst.specs.Entries.{is_name, find}
use Rattle.tcl_subst.proofs.Named.{lookup_named}
use Rattle.tcl_subst.specs.Shorts.{text_of}
use Rattle.tcl_subst.proofs.short_names.ShortNames.get.Goals as goal

pub returns : goal.returns
returns g c = c.get.ensures.value ∙ lookup_named (λ k. text_of k.key) (is_name (text_of c.args.name.now.key)) c.self.inside.tree.entries ∙ ap (find (text_of c.args.name.now.key)) c.self.view_is
