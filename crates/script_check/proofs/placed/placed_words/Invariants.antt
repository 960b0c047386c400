use Rattle.std.proofs.Common.{◌≡◌, ◌++◌, length}
use Rattle.tcl_words.specs.Pieces.{words_view}
use Rattle.script_check.specs.Placed.{placed}
use Rattle.script_check.proofs.placed.placed_words.Given as goal

abbrev pub invariant-loop-left : goal.invariant-loop-left
invariant-loop-left l = l.list.items ++ placed l.end (words_view l.left) l.rest ≡ placed l.end (words_view l.words) l.text

abbrev pub decreases-loop-left : goal.decreases-loop-left
decreases-loop-left l = length l.left
