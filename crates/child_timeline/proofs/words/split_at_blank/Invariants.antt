use Rattle.child_timeline.proofs.Blanks.{IsWordTo}
use Rattle.child_timeline.proofs.words.split_at_blank.Given as goal

abbrev pub invariant-loop-i : goal.invariant-loop-i
invariant-loop-i l = IsWordTo l.bytes l.i
