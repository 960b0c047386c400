use Rattle.std.proofs.Common.{◌≡◌, ◌++◌, drop}
use Rattle.report_texts.specs.Line.{line_text}
use Rattle.report_texts.proofs.line.push_line.Given as goal

abbrev pub invariant-loop-byte : goal.invariant-loop-byte
invariant-loop-byte l = l.text ++ line_text (drop l.byte-index l.bytes) ≡ l.initial.text ++ line_text l.bytes
