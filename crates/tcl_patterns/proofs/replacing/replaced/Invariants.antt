use Rattle.std.proofs.Common.{◌≡◌, ◌+◌, ◌-◌, ◌++◌, false, length}
use Rattle.tcl_subst.specs.Faults.{is_too_long}
use Rattle.tcl_patterns.specs.Matches.{in_turn}
use Rattle.tcl_patterns.specs.Replacing.{replaced_from}
use Rattle.tcl_patterns.proofs.replacing.replaced.Given as goal

abbrev pub invariant-loop-turn : goal.invariant-loop-turn
invariant-loop-turn l = record {
  same : l.searcher ≡ l.fn.searcher;
  text : l.made ++ replaced_from l.text l.by l.done (in_turn (l.most - l.turn) l.fn.searcher l.text l.at) ≡ replaced_from l.text l.by 0 (in_turn l.most l.fn.searcher l.text l.start);
  count : l.turn + length (in_turn (l.most - l.turn) l.fn.searcher l.text l.at) ≡ length (in_turn l.most l.fn.searcher l.text l.start);
  short : is_too_long (length l.made) ≡ false;
}

abbrev pub decreases-loop-turn : goal.decreases-loop-turn
decreases-loop-turn l = l.most - l.turn
