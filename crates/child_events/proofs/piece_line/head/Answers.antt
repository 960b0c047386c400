use Rattle.std.proofs.Common.{◌≤◌, length, arith}
use Rattle.child_events.specs.Log.{longest}
use Rattle.child_events.proofs.Pieces.{piece_said_line}
use Rattle.child_events.proofs.piece_line.head.Goals as goal

pub returns : goal.returns
returns c = λ pairs.
    let short : length c.args.line.now ≤ longest c.args.numbers = omega (arith, c.if-line-longest.false, c.longest.ensures) in
    piece_said_line c.args.numbers c.args.line.now c.in_ok-rest.rest.now c.in_ok-script.rest.now c.in_ok-child.rest.now c.in_ok-moment.digits.now
    c.in_ok-script.script c.in_ok-child.child c.in_ok-moment.moment c.in_ok-stamp.stamp
    short c.in_ok-rest.ensures c.in_ok-script.ensures c.in_ok-child.ensures c.in_ok-moment.ensures c.in_ok-stamp.ensures pairs
