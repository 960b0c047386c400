use Rattle.std.proofs.Common.{sym}
use Rattle.child_events.proofs.Whole.{log_sound}
use Rattle.cut_logs.proofs.Ends.{no_fault, one_fault}
use Rattle.cut_logs.proofs.mending.is_log.Goals as goal

pub returns-in-Ok : goal.returns-in-Ok
returns-in-Ok c = sym (no_fault c.args.bytes.now (log_sound c.args.bytes.now c.in-Ok.field-0 c.in-Ok.ensures.found))

pub returns-in-Err : goal.returns-in-Err
returns-in-Err c = sym (one_fault c.args.bytes.now c.in-Err.field-0 c.in-Err.ensures.refused.0)
