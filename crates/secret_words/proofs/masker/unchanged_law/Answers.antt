use Rattle.secret_words.proofs.Parts.{free_is_unchanged}
use Rattle.secret_words.proofs.masker.unchanged_law.Goals as goal

pub returns : goal.returns
returns c = free_is_unchanged
