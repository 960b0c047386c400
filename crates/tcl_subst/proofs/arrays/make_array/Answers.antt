use Rattle.std.proofs.Common.{subst}
use Rattle.tcl_subst.specs.Entries.{changed}
use Rattle.tcl_subst.specs.Faults.{Changes}
use Rattle.tcl_subst.specs.Slots.{entered, array_made}
use Rattle.tcl_subst.proofs.Named.{entry_changes}
use Rattle.tcl_subst.proofs.arrays.make_array.Goals as goal

pub returns-in-Some : goal.returns-in-Some
returns-in-Some c =
    subst (λ o. Changes c.make_slot.result (entered c.args.name.now c.args.scope.now (array_made o)) c.args.scope.now (changed c.args.name.now c.make_slot.new.slot c.args.scope.now))
    c.in-Some.ensures.value (entry_changes c.make_slot.result _ c.args.name.now c.args.scope.now c.in-Some.slot.now c.make_slot.new.slot c.in-Some.ensures.value c.make_slot.ensures)
