use Rattle.std.proofs.Common.{◌≡◌, ◌++◌}
use Rattle.script_check.proofs.expects.push_words.Given as goal

abbrev pub invariant-loop-word : goal.invariant-loop-word
invariant-loop-word l = l.out.items ++ l.word-iterator.rest.items ≡ l.fn.out.items ++ l.fn.words
