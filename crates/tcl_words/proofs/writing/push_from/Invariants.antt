use Rattle.std.proofs.Common.{◌≡◌, ◌++◌, drop}
use Rattle.tcl_words.specs.Lists.{written_rest}
use Rattle.tcl_words.proofs.writing.push_from.Given as goal

abbrev pub invariant-loop-index : goal.invariant-loop-index
invariant-loop-index l = l.out.items ++ written_rest (drop l.index l.list) ≡ l.fn.out.items ++ written_rest (drop l.from l.list)
