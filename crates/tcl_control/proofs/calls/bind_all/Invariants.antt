use Rattle.std.proofs.Common.{◌≡◌, ℕ, List, true, length, is_some}
use Rattle.tcl_control.specs.Procs.{bound, bound_in}
use Rattle.tcl_control.specs.Scopes.{KeepsOuter}
use Rattle.tcl_control.proofs.calls.bind_all.Given as goal

abbrev pub invariant-loop-rest : goal.invariant-loop-rest
invariant-loop-rest l = record {
  fits : is_some (bound l.rest l.left) ≡ true;
  same : (command : List ℕ) → bound_in command (bound l.rest l.left) l.vars ≡ bound_in command (bound l.formals l.args) l.fn.vars;
  kept : KeepsOuter l.fn.vars l.vars;
}

abbrev pub decreases-loop-rest : goal.decreases-loop-rest
decreases-loop-rest l = length l.rest
