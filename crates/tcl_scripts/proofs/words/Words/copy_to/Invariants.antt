use Rattle.std.proofs.Common.{◌≡◌, ◌++◌, take}
use Rattle.tcl_scripts.proofs.words.Words.copy_to.Given as goal

abbrev pub invariant-loop-word : goal.invariant-loop-word
invariant-loop-word l = l.list.items ≡ l.initial.list.items ++ take l.word-index l.word-items
