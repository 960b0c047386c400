use Rattle.std.proofs.Common.{Err}
use Rattle.std.proofs.lemmas.Result.{err_from_is_err_and}
use Rattle.child_events.proofs.Judged.{says_log}
use Rattle.child_events.proofs.log_lines.LogLines.new.Goals as goal

pub returns-in_err-version-clause-refused : goal.returns-in_err-version-clause-refused
returns-in_err-version-clause-refused c =
    let p = err_from_is_err_and c.from_residual.result c.from_residual.ensures.1 in
    rw (p.1, p.2) (says_log c.args.bytes.now (Err c.in_err-version.field-0.0) c.in_err-version.ensures.refused)
