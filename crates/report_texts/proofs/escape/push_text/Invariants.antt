use Rattle.std.proofs.Common.{◌≡◌, ◌++◌, drop}
use Rattle.report_texts.specs.Escape.{text_behind, escaped}
use Rattle.report_texts.proofs.escape.push_text.Given as goal

abbrev pub invariant-loop-i : goal.invariant-loop-i
invariant-loop-i l = l.text ++ text_behind l.place l.left (drop l.i l.bytes) ≡ l.initial.text ++ escaped l.place l.bytes
