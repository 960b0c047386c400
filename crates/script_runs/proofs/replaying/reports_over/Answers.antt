use Rattle.script_runs.proofs.OverLogs.{over_log}
use Rattle.script_runs.proofs.replaying.reports_over.Goals as goal

pub returns-clause-over : goal.returns-clause-over
returns-clause-over c = over_log c.args.scripts.items c.args.bytes.now c.in_ok-log.log.said c.reports_of.result c.in_ok-log.ensures c.reports_of.ensures.ran
