use Rattle.std.proofs.Common.{subst}
use Rattle.tcl_subst.specs.Entries.{changed}
use Rattle.tcl_subst.specs.Faults.{Changes}
use Rattle.tcl_subst.specs.Slots.{entered, element_written}
use Rattle.tcl_subst.specs.Writes.{write_of}
use Rattle.tcl_subst.proofs.Named.{entry_changes}
use Rattle.tcl_subst.proofs.writes.write_element.Goals as goal

pub returns-in-Some : goal.returns-in-Some
returns-in-Some c =
    subst (λ o. Changes c.write_member.result (entered c.args.array.now c.args.scope.now (element_written (write_of c.args.write) c.args.index.now o)) c.args.scope.now (changed c.args.array.now c.write_member.new.slot c.args.scope.now))
    c.in-Some.ensures.value (entry_changes c.write_member.result _ c.args.array.now c.args.scope.now c.in-Some.slot.now c.write_member.new.slot c.in-Some.ensures.value c.write_member.ensures)
