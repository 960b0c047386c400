use Rattle.std.proofs.Common.{◌≤◌, arith}
use Rattle.script_runs.proofs.Lines.{further}
use Rattle.script_runs.proofs.checking.line_from.Goals as goal

pub returns : goal.returns
returns c =
    let within : c.args.known ≤ c.args.at = omega (arith, c.if-at-known.false) in
    let more = further c.args.source.now c.args.known c.args.at within in
    omega (arith, more, c.requires, c.newlines.ensures)
