use Rattle.std.proofs.Common.{◌≡◌, ◌++◌, drop}
use Rattle.report_texts.specs.Report.{ask_lines}
use Rattle.report_texts.proofs.asks.push_asks.Given as goal

abbrev pub invariant-loop-request : goal.invariant-loop-request
invariant-loop-request l = l.text ++ ask_lines (drop l.request-index l.requests) ≡ l.initial.text ++ ask_lines l.requests
