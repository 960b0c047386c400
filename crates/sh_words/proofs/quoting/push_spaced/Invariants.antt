use Rattle.std.proofs.Common.{◌≡◌, ◌++◌, drop}
use Rattle.sh_words.specs.Quoting.{spaced}
use Rattle.sh_words.proofs.quoting.push_spaced.Given as goal

abbrev pub invariant-loop-word : goal.invariant-loop-word
invariant-loop-word l = l.out ++ spaced (drop l.word-index l.words) ≡ l.fn.out ++ spaced l.words
