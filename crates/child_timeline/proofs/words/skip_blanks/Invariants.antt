use Rattle.std.proofs.Common.{◌≡◌, drop}
use Rattle.child_timeline.specs.Words.{after_blanks}
use Rattle.child_timeline.proofs.words.skip_blanks.Given as goal

abbrev pub invariant-loop-i : goal.invariant-loop-i
invariant-loop-i l = after_blanks l.bytes ≡ after_blanks (drop l.i l.bytes)
