use Rattle.std.proofs.Common.{◌≡◌, ◌&&◌, drop}
use Rattle.child_events.specs.Reading.{all_lower_hex}
use Rattle.child_events.proofs.digits.is_lower_hex.Given as goal

abbrev pub invariant-loop-digit : goal.invariant-loop-digit
invariant-loop-digit l = (l.all && all_lower_hex (drop l.digit-index l.word)) ≡ all_lower_hex l.word
