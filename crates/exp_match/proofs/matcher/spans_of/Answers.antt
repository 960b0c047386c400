use Rattle.std.proofs.Common.{◌∙◌, arith}
use Rattle.std.proofs.Math.ListN.{length-set}
use Rattle.regex.specs.Bytes.{captures_span}
use Rattle.exp_match.proofs.Grouped.{filled}
use Rattle.exp_match.proofs.matcher.spans_of.Goals as goal

pub loop-n-preserved : goal.loop-n-preserved
loop-n-preserved c = (
  length-set c.loop-n.spans c.loop-n.n c.span_of.result ∙ c.loop-n.invariant.0,
  filled c.loop-n.spans c.loop-n.n (captures_span c.args.captures.now) c.span_of.result c.loop-n.invariant.0 (omega arith) (c.span_of.ensures ∙ c.get.ensures.found) c.loop-n.invariant.1,
)
