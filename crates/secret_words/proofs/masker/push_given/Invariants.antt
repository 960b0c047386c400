use Rattle.std.proofs.Common.{◌≡◌, ◌++◌, drop}
use Rattle.secret_words.specs.Pieces.{given_from, given, held_from, held}
use Rattle.secret_words.proofs.masker.push_given.Given as goal

abbrev pub invariant-loop-i : goal.invariant-loop-i
invariant-loop-i l = record {
  shown : l.text ++ given_from l.secrets l.left (drop l.i l.bytes) ≡ l.initial.text ++ given l.secrets l.bytes;
  waits : held_from l.secrets l.left (drop l.i l.bytes) ≡ held l.secrets l.bytes;
}
