use Rattle.std.proofs.Common.{◌≡◌, ◌++◌, drop}
use Rattle.std.specs.List.{filter}
use Rattle.tcl_lists.specs.Searching.{IsTestOf, is_sought}
use Rattle.tcl_lists.proofs.searching.all_elements.Given as goal

abbrev pub invariant-loop-at : goal.invariant-loop-at
invariant-loop-at l = record {
  same : l.made ++ filter (is_sought l.given l.pattern) (drop l.at l.elements) ≡ filter (is_sought l.given l.pattern) (drop l.from l.elements);
  test : IsTestOf l.given l.pattern l.test;
}
