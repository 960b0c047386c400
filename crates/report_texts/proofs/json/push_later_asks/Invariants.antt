use Rattle.std.proofs.Common.{◌≡◌, ◌++◌, drop}
use Rattle.report_texts.specs.Json.{later_asks}
use Rattle.report_texts.proofs.json.push_later_asks.Given as goal

abbrev pub invariant-loop-request : goal.invariant-loop-request
invariant-loop-request l = l.text ++ later_asks (drop l.request-index l.requests) ≡ l.initial.text ++ later_asks l.requests
