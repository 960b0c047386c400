use Rattle.std.proofs.Common.{◌≡◌, length, is_some}
use Rattle.tcl_control.specs.Procs.{bound}
use Rattle.tcl_control.proofs.calls.fits.Given as goal

abbrev pub invariant-loop-rest : goal.invariant-loop-rest
invariant-loop-rest l = is_some (bound l.rest l.left) ≡ is_some (bound l.formals l.args)

abbrev pub decreases-loop-rest : goal.decreases-loop-rest
decreases-loop-rest l = length l.rest
