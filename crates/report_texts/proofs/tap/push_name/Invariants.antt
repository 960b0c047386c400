use Rattle.std.proofs.Common.{◌≡◌, ◌++◌, drop}
use Rattle.report_texts.specs.Tap.{name_text}
use Rattle.report_texts.proofs.tap.push_name.Given as goal

abbrev pub invariant-loop-byte : goal.invariant-loop-byte
invariant-loop-byte l = l.text ++ name_text (drop l.byte-index l.name) ≡ l.initial.text ++ name_text l.name
