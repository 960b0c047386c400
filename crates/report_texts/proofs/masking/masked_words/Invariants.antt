use Rattle.std.proofs.Common.{◌≡◌, take, map}
use Rattle.secret_words.specs.Masking.{masked}
use Rattle.report_texts.proofs.masking.masked_words.Given as goal

abbrev pub invariant-loop-word : goal.invariant-loop-word
invariant-loop-word l = l.made ≡ map (masked l.secrets) (take l.word-index l.words)
