use Rattle.std.proofs.Common.{◌≡◌, drop}
use Rattle.tcl_lists.specs.Joining.{joined, full}
use Rattle.tcl_lists.proofs.Joins.{onward}
use Rattle.tcl_lists.proofs.joining.full_words.Given as goal

abbrev pub invariant-loop-word : goal.invariant-loop-word
invariant-loop-word l = onward l.text (full (drop l.word-index l.words)) ≡ joined (full l.words)
