use Rattle.std.proofs.Common.{◌≡◌, ◌+◌, ◌-◌, ◌≤◌, drop, length}
use Rattle.tcl_expr.specs.White.{white}
use Rattle.tcl_expr.proofs.white.white.Given as goal

abbrev pub invariant-loop-at : goal.invariant-loop-at
invariant-loop-at l = (l.at ≤ length l.bytes) × (l.at + white (drop l.at l.bytes) ≡ white l.bytes)

abbrev pub decreases-loop-at : goal.decreases-loop-at
decreases-loop-at l = length l.bytes - l.at
