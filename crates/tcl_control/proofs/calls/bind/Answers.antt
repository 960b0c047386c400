use Rattle.tcl_subst.specs.Writes.{set_to}
use Rattle.tcl_control.proofs.Scopes.{with_value_keeps}
use Rattle.tcl_control.proofs.calls.bind.Goals as goal

pub returns-in-Ok-clause-kept : goal.returns-in-Ok-clause-kept
returns-in-Ok-clause-kept c = with_value_keeps (set_to c.args.value) c.args.name.now c.args.vars.now c.set.new.self c.requires c.in-Ok.ensures
