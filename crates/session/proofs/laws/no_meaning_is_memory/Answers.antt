use Rattle.session.proofs.Sparing.{none_means_memory, begins_spared, fed_spared, handed_spared}
use Rattle.session.proofs.laws.no_meaning_is_memory.Goals as goal

pub returns-clause-meant : goal.returns-clause-meant
returns-clause-meant c = none_means_memory

pub returns-clause-said : goal.returns-clause-said
returns-clause-said c = record { begins = begins_spared; fed = fed_spared; handed = handed_spared }
