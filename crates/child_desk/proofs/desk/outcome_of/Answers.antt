use Rattle.child_desk.proofs.Lining.{all_shown}
use Rattle.child_desk.proofs.desk.outcome_of.Goals as goal

pub returns-clause-shown : goal.returns-clause-shown
returns-clause-shown c = all_shown c.args.book c.into_reports.result c.into_reports.ensures
