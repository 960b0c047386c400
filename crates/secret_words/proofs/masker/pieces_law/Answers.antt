use Rattle.secret_words.proofs.Parts.{pieces_are_whole, holds_less}
use Rattle.secret_words.proofs.masker.pieces_law.Goals as goal

pub returns-clause-whole : goal.returns-clause-whole
returns-clause-whole c = pieces_are_whole

pub returns-clause-less : goal.returns-clause-less
returns-clause-less c = holds_less
