use Rattle.session.proofs.Limiting.{limit_ends, begins_limited, fed_limited, handed_limited, reported_limited}
use Rattle.session.proofs.laws.limit_law.Goals as goal

pub returns-clause-ends : goal.returns-clause-ends
returns-clause-ends c = limit_ends

pub returns-clause-stays : goal.returns-clause-stays
returns-clause-stays c = record { begins = begins_limited; fed = fed_limited; handed = handed_limited; reported = reported_limited }
