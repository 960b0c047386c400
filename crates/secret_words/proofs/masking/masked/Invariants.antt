use Rattle.std.proofs.Common.{◌≡◌, ◌++◌, drop}
use Rattle.secret_words.specs.Masking.{masked_from, masked}
use Rattle.secret_words.proofs.masking.masked.Given as goal

abbrev pub invariant-loop-i : goal.invariant-loop-i
invariant-loop-i l = l.text ++ masked_from l.secrets l.left (drop l.i l.bytes) ≡ masked l.secrets l.bytes
