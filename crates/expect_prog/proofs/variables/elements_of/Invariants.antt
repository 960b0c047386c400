use Rattle.std.proofs.Common.{◌≡◌, ◌++◌, drop}
use Rattle.command_line.specs.Given.{names_of}
use Rattle.expect_prog.proofs.variables.elements_of.Given as goal

abbrev pub invariant-loop-word : goal.invariant-loop-word
invariant-loop-word l = l.list ++ names_of (drop l.word-index l.words) ≡ names_of l.words
