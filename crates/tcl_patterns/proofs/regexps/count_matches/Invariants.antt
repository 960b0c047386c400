use Rattle.std.proofs.Common.{◌≡◌, ◌+◌, ◌-◌, length}
use Rattle.tcl_results.specs.Ways.{no_match}
use Rattle.tcl_patterns.specs.Matches.{in_turn}
use Rattle.tcl_patterns.specs.Regexps.{last_of}
use Rattle.tcl_patterns.proofs.regexps.count_matches.Given as goal

abbrev pub invariant-loop-turn : goal.invariant-loop-turn
invariant-loop-turn l = record {
  same : l.searcher ≡ l.fn.searcher;
  last : last_of l.spans (in_turn (l.most - l.turn) l.fn.searcher l.text l.at) ≡ last_of no_match (in_turn l.most l.fn.searcher l.text l.start);
  count : l.turn + length (in_turn (l.most - l.turn) l.fn.searcher l.text l.at) ≡ length (in_turn l.most l.fn.searcher l.text l.start);
}

abbrev pub decreases-loop-turn : goal.decreases-loop-turn
decreases-loop-turn l = l.most - l.turn
