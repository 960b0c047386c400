use Rattle.std.proofs.Common.{◌≡◌, ◌++◌, drop}
use Rattle.std.specs.List.{flat_map}
use Rattle.sh_words.specs.Quoting.{quoted_byte}
use Rattle.sh_words.proofs.quoting.push_within.Given as goal

abbrev pub invariant-loop-b : goal.invariant-loop-b
invariant-loop-b l = l.out ++ flat_map quoted_byte (drop l.b-index l.word) ≡ l.fn.out ++ flat_map quoted_byte l.word
