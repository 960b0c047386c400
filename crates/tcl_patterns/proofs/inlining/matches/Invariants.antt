use Rattle.std.proofs.Common.{◌≡◌, ◌-◌, ◌++◌}
use Rattle.std.specs.List.{flat_map}
use Rattle.tcl_patterns.specs.Inlining.{groups_shown}
use Rattle.tcl_patterns.specs.Matches.{in_turn}
use Rattle.tcl_patterns.proofs.inlining.matches.Given as goal

abbrev pub invariant-loop-turn : goal.invariant-loop-turn
invariant-loop-turn l = record {
  same : l.searcher ≡ l.fn.searcher;
  list : l.made ++ flat_map (groups_shown l.indexed l.text l.count) (in_turn (l.most - l.turn) l.fn.searcher l.text l.at) ≡ flat_map (groups_shown l.indexed l.text l.count) (in_turn l.most l.fn.searcher l.text l.start);
}

abbrev pub decreases-loop-turn : goal.decreases-loop-turn
decreases-loop-turn l = l.most - l.turn
