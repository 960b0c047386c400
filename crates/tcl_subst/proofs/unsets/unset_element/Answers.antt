use Rattle.std.proofs.Common.{subst}
use Rattle.tcl_subst.specs.Entries.{changed}
use Rattle.tcl_subst.specs.Faults.{Changes}
use Rattle.tcl_subst.specs.Slots.{entered, element_unset}
use Rattle.tcl_subst.proofs.Named.{entry_changes}
use Rattle.tcl_subst.proofs.unsets.unset_element.Goals as goal

pub returns-in-Some : goal.returns-in-Some
returns-in-Some c =
    subst (λ o. Changes c.unset_member.result (entered c.args.array.now c.args.scope.now (element_unset c.args.index.now o)) c.args.scope.now (changed c.args.array.now c.unset_member.new.slot c.args.scope.now))
    c.in-Some.ensures.value (entry_changes c.unset_member.result _ c.args.array.now c.args.scope.now c.in-Some.slot.now c.unset_member.new.slot c.in-Some.ensures.value c.unset_member.ensures)
