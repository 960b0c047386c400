use Rattle.std.proofs.Common.{◌≡◌, ◌+◌, ◌≤◌, false, length}
use Rattle.tcl_formats.specs.Scanning.{followed}
use Rattle.tcl_formats.proofs.scanning.followed.Given as goal

abbrev pub invariant-loop-rest : goal.invariant-loop-rest
invariant-loop-rest l = record {
  same : followed l.rest l.names l.left l.done l.at l.vars ≡ followed l.directives l.names l.text false 0 l.fn.vars;
  within : l.at + length l.rest ≤ length l.directives;
}

abbrev pub decreases-loop-rest : goal.decreases-loop-rest
decreases-loop-rest l = length l.rest
