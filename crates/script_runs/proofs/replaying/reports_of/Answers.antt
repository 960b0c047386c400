use Rattle.script_runs.proofs.Standing.{as_many}
use Rattle.script_runs.proofs.replaying.reports_of.Goals as goal

pub returns-in-Ok-clause-count : goal.returns-in-Ok-clause-count
returns-in-Ok-clause-count c = as_many 1 c.in-Ok.ensures.runs.0 c.args.scripts.items c.in-Ok.reports c.in-Ok.ensures.runs.2.2
