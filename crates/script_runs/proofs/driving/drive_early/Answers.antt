use Rattle.std.proofs.Common.{length, map}
use Rattle.child_serve.specs.Whole.{keeping_of}
use Rattle.script_runs.proofs.Drives.{records_of}
use Rattle.script_runs.proofs.driving.drive_early.Goals as goal

pub returns : goal.returns
returns g c = records_of g.K.Keeper.told g.K.Keeper.gives c.args.recorded (length c.args.clocks.items) (map (keeping_of g.K.Keeper.named g.K.Keeper.made) c.args.keepers.items) c.args.scripts.items (g.L.Write.contents c.args.log.device) (g.L.Write.contents c.serve_and_log-outcome.result.1.device) c.serve_and_log-outcome.result.1.failures c.serve_and_log-outcome.result.1.calls c.serve_and_log-outcome.result.0 c.log_fault.result c.log_fault.ensures c.serve_and_log-outcome.ensures
