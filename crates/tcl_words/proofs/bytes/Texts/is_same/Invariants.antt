use Rattle.std.proofs.Common.{◌≡◌, take}
use Rattle.tcl_words.proofs.bytes.Texts.is_same.Given as goal

abbrev pub invariant-loop-i : goal.invariant-loop-i
invariant-loop-i l = take l.i l.self ≡ take l.i l.other
