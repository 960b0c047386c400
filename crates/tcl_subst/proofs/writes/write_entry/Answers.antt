use Rattle.std.proofs.Common.{subst}
use Rattle.tcl_subst.specs.Entries.{changed}
use Rattle.tcl_subst.specs.Faults.{Changes}
use Rattle.tcl_subst.specs.Slots.{entered, value_written}
use Rattle.tcl_subst.specs.Writes.{write_of}
use Rattle.tcl_subst.proofs.Named.{entry_changes}
use Rattle.tcl_subst.proofs.writes.write_entry.Goals as goal

pub returns-in-Some : goal.returns-in-Some
returns-in-Some c =
    subst (λ o. Changes c.write_value.result (entered c.args.index.now c.args.elements.now (value_written (write_of c.args.write) o)) c.args.elements.now (changed c.args.index.now c.write_value.new.value c.args.elements.now))
    c.in-Some.ensures.value (entry_changes c.write_value.result _ c.args.index.now c.args.elements.now c.in-Some.value.now c.write_value.new.value c.in-Some.ensures.value c.write_value.ensures)
