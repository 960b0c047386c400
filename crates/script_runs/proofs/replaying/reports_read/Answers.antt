use Rattle.std.specs.Prelude.{option_map}
use Rattle.script_runs.specs.Replay.{log_of}
use Rattle.script_runs.proofs.OverLogs.{over_read}
use Rattle.script_runs.proofs.replaying.reports_read.Goals as goal

pub returns-clause-read : goal.returns-clause-read
returns-clause-read g c =
    over_read c.args.scripts.items (option_map (log_of c.args.cut) (g.R.Read.remaining c.args.log.now.device)) _ c.as_slice.result.now _ _ c.reports_over.result
    c.in-Ok.ensures.bytes c.as_slice.ensures c.reports_over.ensures.over
