use Rattle.std.proofs.Common.{◌≡◌, ◌++◌, drop}
use Rattle.script_check.specs.Lines.{line_of}
use Rattle.script_runs.specs.Check.{finding_lines}
use Rattle.script_runs.proofs.checking.push_findings.Given as goal

abbrev pub invariant-loop-finding : goal.invariant-loop-finding
invariant-loop-finding l = record {
  line : l.line ≡ line_of l.source l.known;
  text : l.text ++ finding_lines l.file l.source (drop l.finding-index l.findings) ≡ l.initial.text ++ finding_lines l.file l.source l.findings;
}
