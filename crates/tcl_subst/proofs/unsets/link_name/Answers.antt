use Rattle.std.proofs.Common.{subst}
use Rattle.tcl_subst.specs.Entries.{changed}
use Rattle.tcl_subst.specs.Faults.{Changes}
use Rattle.tcl_subst.specs.Slots.{entered, linked_over}
use Rattle.tcl_subst.proofs.Named.{entry_changes}
use Rattle.tcl_subst.proofs.unsets.link_name.Goals as goal

pub returns-in-Some : goal.returns-in-Some
returns-in-Some c =
    subst (λ o. Changes c.link_slot.result (entered c.args.name.now c.args.scope.now (linked_over c.args.to o)) c.args.scope.now (changed c.args.name.now c.link_slot.new.slot c.args.scope.now))
    c.in-Some.ensures.value (entry_changes c.link_slot.result _ c.args.name.now c.args.scope.now c.in-Some.slot.now c.link_slot.new.slot c.in-Some.ensures.value c.link_slot.ensures)
