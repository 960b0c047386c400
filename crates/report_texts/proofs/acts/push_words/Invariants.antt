use Rattle.std.proofs.Common.{◌≡◌, ◌++◌, drop}
use Rattle.report_texts.specs.Acts.{words_part}
use Rattle.report_texts.proofs.acts.push_words.Given as goal

abbrev pub invariant-loop-word : goal.invariant-loop-word
invariant-loop-word l = l.text ++ words_part l.spelling (drop l.word-index l.words) ≡ l.initial.text ++ words_part l.spelling l.words
