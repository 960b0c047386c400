use Rattle.std.proofs.Common.{ℕ, List, ◌++◌, drop}
use Rattle.tcl_scripts.specs.Literals.{AreLiterals}
use Rattle.tcl_scripts.proofs.words.literals.Given as goal

abbrev pub invariant-loop-word : goal.invariant-loop-word
invariant-loop-word l = (vs : List (List ℕ)) → AreLiterals (drop l.word-index l.words) vs → AreLiterals l.words (l.values.items ++ vs)
