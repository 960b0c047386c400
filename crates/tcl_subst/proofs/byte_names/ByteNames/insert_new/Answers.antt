use Rattle.std.proofs.Common.{ap, ◌∙◌}
use Rattle.std.specs.BTreeMap.{insert_entry}
use Rattle.tcl_subst.specs.Entries.{order}
use Rattle.tcl_subst.proofs.Named.{named, insert_named}
use Rattle.tcl_subst.proofs.byte_names.ByteNames.insert_new.Goals as goal

pub returns-clause-put : goal.returns-clause-put
returns-clause-put g c =
    ap (named (λ k. k.items)) c.in_ok-insert.ensures.entries
    ∙ insert_named (λ k. k.items) c.in_ok-from_slice.field-0 c.args.value c.self.inside.tree.entries
    ∙ ap (λ es. insert_entry order es c.in_ok-from_slice.field-0.items c.args.value) c.self.view_is
    ∙ ap (λ n. insert_entry order c.args.self.now n c.args.value) c.in_ok-from_slice.ensures.items
