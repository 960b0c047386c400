use Rattle.std.proofs.Common.{◌≡◌, ◌<◌, ◌^◌, drop}
use Rattle.std.specs.List.{list_all}
use Rattle.tcl_expr.specs.Number.{is_digit, value_from}
use Rattle.tcl_expr.proofs.number.value.Given as goal

abbrev pub invariant-loop-b : goal.invariant-loop-b
invariant-loop-b l = record {
  same : value_from l.n (drop l.b-index l.text) ≡ value_from 0 l.text;
  all : list_all is_digit (drop l.b-index l.text) ≡ list_all is_digit l.text;
  small : l.n < 10 ^ l.b-index;
}
