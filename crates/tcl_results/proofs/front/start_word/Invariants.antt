use Rattle.std.proofs.Common.{◌≡◌, false, length}
use Rattle.std.specs.Prelude.{codes}
use Rattle.tcl_results.specs.Front.{start_word}
use Rattle.tcl_results.proofs.front.start_word.Given as goal

abbrev pub invariant-loop-rest : goal.invariant-loop-rest
invariant-loop-rest l = start_word l.due l.last l.rest ≡ start_word false (codes "0") l.flags

abbrev pub decreases-loop-rest : goal.decreases-loop-rest
decreases-loop-rest l = length l.rest
