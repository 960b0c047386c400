use Rattle.child_desk.proofs.Limiting.{lines_end, turns_pass}
use Rattle.child_desk.proofs.laws.limits.Goals as goal

pub returns-clause-lines : goal.returns-clause-lines
returns-clause-lines c = lines_end

pub returns-clause-turns : goal.returns-clause-turns
returns-clause-turns c = turns_pass
