use Rattle.session.proofs.Numbering.{all_name_a_child, begins_asking, fed_asking, handed_asking}
use Rattle.session.proofs.laws.request_law.Goals as goal

pub returns-clause-asked : goal.returns-clause-asked
returns-clause-asked c = all_name_a_child

pub returns-clause-handed : goal.returns-clause-handed
returns-clause-handed c = record { begins = begins_asking; fed = fed_asking; handed = handed_asking }
