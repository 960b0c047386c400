use Rattle.std.proofs.Common.{◌≡◌, ◌-◌, ◌++◌, ◌≤◌, length, drop}
use Rattle.std.specs.Prelude.{encode_utf8_all}
use Rattle.std.specs.String.{string_bytes}
use Rattle.exp_match.specs.Translation.{text_from, translated}
use Rattle.exp_match.proofs.translation.translated.Given as goal

abbrev pub invariant-loop-at : goal.invariant-loop-at
invariant-loop-at l = (l.at ≤ length l.chars) × (string_bytes l.text ++ encode_utf8_all (text_from l.context (drop l.at l.chars)) ≡ encode_utf8_all (translated l.chars))

abbrev pub decreases-loop-at : goal.decreases-loop-at
decreases-loop-at l = length l.chars - l.at
