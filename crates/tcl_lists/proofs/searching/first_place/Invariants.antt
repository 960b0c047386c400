use Rattle.std.proofs.Common.{◌≡◌, drop}
use Rattle.std.specs.List.{position_from}
use Rattle.tcl_lists.specs.Searching.{IsTestOf, is_sought}
use Rattle.tcl_lists.proofs.searching.first_place.Given as goal

abbrev pub invariant-loop-at : goal.invariant-loop-at
invariant-loop-at l = record {
  same : position_from (is_sought l.given l.pattern) l.at (drop l.at l.elements) ≡ position_from (is_sought l.given l.pattern) l.from (drop l.from l.elements);
  test : IsTestOf l.given l.pattern l.test;
}
