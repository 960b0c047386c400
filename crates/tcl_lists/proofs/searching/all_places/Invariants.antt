use Rattle.std.proofs.Common.{◌≡◌, ◌++◌, drop, map}
use Rattle.tcl_lists.specs.Searching.{IsTestOf, is_sought, places_from}
use Rattle.tcl_results.specs.Values.{count_text}
use Rattle.tcl_lists.proofs.searching.all_places.Given as goal

abbrev pub invariant-loop-at : goal.invariant-loop-at
invariant-loop-at l = record {
  same : l.made ++ map count_text (places_from (is_sought l.given l.pattern) l.at (drop l.at l.elements)) ≡ map count_text (places_from (is_sought l.given l.pattern) l.from (drop l.from l.elements));
  test : IsTestOf l.given l.pattern l.test;
}
