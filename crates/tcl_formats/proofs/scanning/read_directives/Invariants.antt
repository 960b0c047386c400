use Rattle.std.proofs.Common.{◌≡◌, length}
use Rattle.tcl_formats.specs.Parts.{parts_from}
use Rattle.tcl_formats.specs.Scanning.{directive_at}
use Rattle.tcl_results.proofs.Onto.{onto}
use Rattle.tcl_formats.proofs.scanning.read_directives.Given as goal

abbrev pub invariant-loop-rest : goal.invariant-loop-rest
invariant-loop-rest l = onto l.list.items (parts_from directive_at 0 l.rest) ≡ parts_from directive_at 0 l.template

abbrev pub decreases-loop-rest : goal.decreases-loop-rest
decreases-loop-rest l = length l.rest
