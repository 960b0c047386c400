use Rattle.std.proofs.Common.{ap, ◌∙◌}
use Rattle.std.specs.BTreeMap.{insert_entry}
use Rattle.tcl_subst.specs.Entries.{order}
use Rattle.tcl_subst.proofs.Named.{named, insert_named}
use Rattle.tcl_subst.specs.Shorts.{text_of}
use Rattle.tcl_subst.proofs.short_names.ShortNames.insert_new.Goals as goal

pub returns-clause-put : goal.returns-clause-put
returns-clause-put g c =
    ap (named (λ k. text_of k.key)) c.in_ok-insert.ensures.entries
    ∙ insert_named (λ k. text_of k.key) c.args.name.now c.args.value c.self.inside.tree.entries
    ∙ ap (λ es. insert_entry order es (text_of c.args.name.now.key) c.args.value) c.self.view_is
