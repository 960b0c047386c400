use Rattle.std.proofs.Common.{◌≡◌, map, take}
use Rattle.tcl_words.specs.Pieces.{word_view}
use Rattle.tcl_scripts.proofs.words.Words.new.Given as goal

abbrev pub invariant-loop-word : goal.invariant-loop-word
invariant-loop-word l = l.list.items ≡ map word_view (take l.word-index l.words)
