use Rattle.std.proofs.Common.{◌≡◌, drop}
use Rattle.tcl_lists.specs.Joining.{joined_to}
use Rattle.tcl_lists.proofs.joining.joined_words.Given as goal

abbrev pub invariant-loop-word : goal.invariant-loop-word
invariant-loop-word l = joined_to l.text (drop l.word-index l.words) ≡ joined_to l.first l.words
