use Rattle.std.proofs.Common.{◌≡◌, ◌*◌, ◌&&◌, true, take, drop}
use Rattle.hex.specs.Hex.{decode_pairs}
use Rattle.hex.proofs.Pairs.{prepend}
use Rattle.child_events.specs.Reading.{all_lower_hex}
use Rattle.child_events.proofs.digits.decode_lower.Given as goal

abbrev pub invariant-bytes : goal.invariant-bytes
invariant-bytes l = record {
  judged : (l.lower && all_lower_hex (drop (2 * l.i) l.word)) ≡ all_lower_hex l.word;
  decoded : l.lower ≡ true → decode_pairs 0 l.word ≡ prepend (take l.i l.out) (decode_pairs (2 * l.i) (drop (2 * l.i) l.word));
}
