use Rattle.std.proofs.Common.{sym, ap, ◌∙◌}
use Rattle.std.specs.Option.{option_copied_mut}
use Rattle.tcl_subst.proofs.Named.{on_ok, put_new}
use Rattle.tcl_subst.proofs.byte_names.ByteNames.insert.Goals as goal

pub returns-clause-put : goal.returns-clause-put
returns-clause-put g c =
    let none = sym c.get_mut.ensures.value ∙ ap option_copied_mut c.in_default.is in
    on_ok c.insert_new.result _ _ (λ put. put ∙ put_new c.args.name.now c.args.value c.args.self.now none) c.insert_new.ensures.put
