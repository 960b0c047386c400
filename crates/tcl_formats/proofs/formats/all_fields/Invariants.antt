use Rattle.std.proofs.Common.{◌≡◌, length}
use Rattle.tcl_formats.specs.Formats.{all_fields}
use Rattle.tcl_formats.proofs.Fielded.{onto}
use Rattle.tcl_formats.proofs.formats.all_fields.Given as goal

abbrev pub invariant-loop-rest : goal.invariant-loop-rest
invariant-loop-rest l = onto l.list.items (all_fields l.command l.rest l.left) ≡ all_fields l.command l.pieces l.values

abbrev pub decreases-loop-rest : goal.decreases-loop-rest
decreases-loop-rest l = length l.rest
