use Rattle.std.proofs.Common.{◌≡◌, drop}
use Rattle.child_timeline.specs.declared.quoted.QuoteState.TheVariants.{Plain}
use Rattle.child_timeline.specs.Quoted.{text_from, IsQuoteState}
use Rattle.child_timeline.proofs.Saying.{joined}
use Rattle.child_timeline.proofs.quoted.read_quoted.Given as goal

abbrev pub invariant-loop-byte : goal.invariant-loop-byte
invariant-loop-byte l = record {
  same : joined l.text (text_from l.state (drop l.byte-index l.bytes)) ≡ text_from Plain l.bytes;
  state : IsQuoteState l.state;
}
