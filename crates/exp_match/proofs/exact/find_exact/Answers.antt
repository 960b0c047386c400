use Rattle.exp_match.proofs.Answering.{is_find_text}
use Rattle.exp_match.proofs.exact.find_exact.Goals as goal

pub returns-then-nocase-clause-stands : goal.returns-then-nocase-clause-stands
returns-then-nocase-clause-stands c = rw c.if-nocase.true c.find_folded.ensures

pub returns-then-nocase-clause-value : goal.returns-then-nocase-clause-value
returns-then-nocase-clause-value c = is_find_text c.args.nocase c.args.text.now c.args.bytes.now _ (returns-then-nocase-clause-stands c)

pub returns-else-nocase-clause-stands : goal.returns-else-nocase-clause-stands
returns-else-nocase-clause-stands c = rw c.if-nocase.false c.find_same.ensures

pub returns-else-nocase-clause-value : goal.returns-else-nocase-clause-value
returns-else-nocase-clause-value c = is_find_text c.args.nocase c.args.text.now c.args.bytes.now _ (returns-else-nocase-clause-stands c)
