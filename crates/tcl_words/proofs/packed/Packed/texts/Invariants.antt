use Rattle.std.proofs.Common.{◌≡◌, take}
use Rattle.tcl_words.proofs.packed.Packed.texts.Given as goal

abbrev pub invariant-loop-index : goal.invariant-loop-index
invariant-loop-index l = l.texts ≡ take l.index l.self
