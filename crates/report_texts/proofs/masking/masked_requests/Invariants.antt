use Rattle.std.proofs.Common.{◌≡◌, take, map}
use Rattle.report_texts.specs.Masked.{masked_request}
use Rattle.report_texts.proofs.masking.masked_requests.Given as goal

abbrev pub invariant-loop-request : goal.invariant-loop-request
invariant-loop-request l = l.made ≡ map (masked_request l.secrets) (take l.request-index l.requests)
