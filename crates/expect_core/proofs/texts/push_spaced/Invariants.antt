use Rattle.std.proofs.Common.{◌≡◌, ◌++◌, drop}
use Rattle.expect_core.specs.Texts.{spaced}
use Rattle.expect_core.proofs.texts.push_spaced.Given as goal

abbrev pub invariant-loop-word : goal.invariant-loop-word
invariant-loop-word l = l.line ++ spaced (drop l.word-index l.words) ≡ l.fn.line ++ spaced l.words
