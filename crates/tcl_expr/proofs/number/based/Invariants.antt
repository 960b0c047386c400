use Rattle.std.proofs.Common.{◌≡◌, ◌≤◌, drop}
use Rattle.tcl_expr.specs.Number.{based, based_from}
use Rattle.tcl_expr.proofs.number.based.Given as goal

abbrev pub invariant-loop-b : goal.invariant-loop-b
invariant-loop-b l = record {
  same : based_from l.base 9223372036854775807 l.n (drop l.b-index l.text) ≡ based l.base 9223372036854775807 l.text;
  small : l.n ≤ 9223372036854775807;
}
