use Rattle.std.proofs.Common.{◌≡◌, ◌≤◌, min, drop}
use Rattle.tcl_expr.specs.Number.{value_from}
use Rattle.tcl_formats.proofs.digits.number_up_to.Given as goal

abbrev pub invariant-loop-b : goal.invariant-loop-b
invariant-loop-b l = record {
  same : min (value_from l.n (drop l.b-index l.digits)) l.most ≡ min (value_from 0 l.digits) l.most;
  within : l.n ≤ l.most;
}
