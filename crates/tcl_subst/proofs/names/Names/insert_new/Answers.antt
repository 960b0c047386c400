use Rattle.std.proofs.Common.{sym, ap, ◌∙◌}
use Rattle.std.specs.BTreeMap.{insert_entry}
use Rattle.tcl_subst.specs.Both.{both}
use Rattle.tcl_subst.specs.Entries.{order}
use Rattle.tcl_subst.proofs.Named.{on_ok, put_new}
use Rattle.tcl_subst.proofs.Sorted.{short_so, long_so, put_short, put_long}
use Rattle.tcl_subst.proofs.names.Names.insert_new.Goals as goal

pub returns-in-Some-clause-put : goal.returns-in-Some-clause-put
returns-in-Some-clause-put g c =
    on_ok c.insert_new.result _ _ (λ put none.
    ap (λ es. both es c.self.inside.long) (put ∙ ap (λ n. insert_entry order c.self.inside.short n c.args.value) c.in-Some.ensures.short.0)
    ∙ sym (put_short c.args.name.now c.args.value c.self.inside.short c.self.inside.long (short_so c.args.name.now c.in-Some.ensures.short.1))
    ∙ ap (λ es. insert_entry order es c.args.name.now c.args.value) c.self.view_is
    ∙ put_new c.args.name.now c.args.value c.args.self.now none) c.insert_new.ensures.put

pub returns-in-None-clause-put : goal.returns-in-None-clause-put
returns-in-None-clause-put g c =
    on_ok c.insert_new-in-None.result _ _ (λ put none.
    ap (both c.self.inside.short) put
    ∙ sym (put_long c.args.name.now c.args.value c.self.inside.short c.self.inside.long (long_so c.args.name.now c.in-None.ensures.long))
    ∙ ap (λ es. insert_entry order es c.args.name.now c.args.value) c.self.view_is
    ∙ put_new c.args.name.now c.args.value c.args.self.now none) c.insert_new-in-None.ensures.put
