use Rattle.std.proofs.Common.{◌≡◌, ◌++◌, drop}
use Rattle.report_texts.specs.Json.{string_bytes}
use Rattle.report_texts.proofs.json.push_string_bytes.Given as goal

abbrev pub invariant-loop-byte : goal.invariant-loop-byte
invariant-loop-byte l = l.text ++ string_bytes (drop l.byte-index l.bytes) ≡ l.initial.text ++ string_bytes l.bytes
