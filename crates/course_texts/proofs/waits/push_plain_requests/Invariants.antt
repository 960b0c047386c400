use Rattle.std.proofs.Common.{◌≡◌, ◌++◌, drop}
use Rattle.course_texts.specs.Waits.{plain_lines}
use Rattle.course_texts.proofs.waits.push_plain_requests.Given as goal

abbrev pub invariant-loop-request : goal.invariant-loop-request
invariant-loop-request l = l.text ++ plain_lines (drop l.request-index l.requests) ≡ l.initial.text ++ plain_lines l.requests
