use Rattle.std.proofs.Common.{◌≡◌, ◌++◌, drop}
use Rattle.script_runs.specs.Check.{lines_within}
use Rattle.script_runs.proofs.checking.push_lines_within.Given as goal

abbrev pub invariant-loop-byte : goal.invariant-loop-byte
invariant-loop-byte l = record {
  text : l.text ++ lines_within (drop l.byte-index l.bytes) ≡ l.initial.text ++ lines_within l.bytes;
}
