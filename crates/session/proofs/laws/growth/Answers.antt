use Rattle.session.proofs.Grows.{ending_stays, only_grows}
use Rattle.session.proofs.laws.growth.Goals as goal

pub returns-clause-stays : goal.returns-clause-stays
returns-clause-stays c = ending_stays

pub returns-clause-grows : goal.returns-clause-grows
returns-clause-grows c = only_grows
