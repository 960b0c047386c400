use Rattle.std.proofs.Common.{◌≡◌, length}
use Rattle.tcl_control.specs.Procs.{formals_in}
use Rattle.tcl_results.proofs.Onto.{onto}
use Rattle.tcl_control.proofs.formals.formals_in.Given as goal

abbrev pub invariant-loop-rest : goal.invariant-loop-rest
invariant-loop-rest l = onto l.list.items (formals_in l.rest) ≡ formals_in l.texts

abbrev pub decreases-loop-rest : goal.decreases-loop-rest
decreases-loop-rest l = length l.rest
