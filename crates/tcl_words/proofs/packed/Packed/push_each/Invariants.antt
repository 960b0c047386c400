use Rattle.std.proofs.Common.{◌≡◌, ◌++◌, take}
use Rattle.tcl_words.proofs.packed.Packed.push_each.Given as goal

abbrev pub invariant-loop-index : goal.invariant-loop-index
invariant-loop-index l = l.self ≡ l.fn.self ++ take l.index l.texts
