use Rattle.std.proofs.Common.{subst}
use Rattle.tcl_subst.specs.Entries.{changed}
use Rattle.tcl_subst.specs.Faults.{Changes}
use Rattle.tcl_subst.specs.Slots.{entered, text_written}
use Rattle.tcl_subst.specs.Writes.{write_of}
use Rattle.tcl_subst.proofs.Named.{entry_changes}
use Rattle.tcl_subst.proofs.writes.write_text.Goals as goal

pub returns-in-Some : goal.returns-in-Some
returns-in-Some c =
    subst (λ o. Changes c.write_slot.result (entered c.args.name.now c.args.scope.now (text_written (write_of c.args.write) o)) c.args.scope.now (changed c.args.name.now c.write_slot.new.slot c.args.scope.now))
    c.in-Some.ensures.value (entry_changes c.write_slot.result _ c.args.name.now c.args.scope.now c.in-Some.slot.now c.write_slot.new.slot c.in-Some.ensures.value c.write_slot.ensures)
