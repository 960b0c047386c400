use Rattle.child_events.proofs.Pieces.{piece_judged}
use Rattle.child_events.proofs.line.judge_line.Goals as goal

pub returns-in-Some : goal.returns-in-Some
returns-in-Some c = piece_judged c.args.numbers c.args.number c.args.line.now c.in-Some.field-0.0 c.in-Some.field-0.1.now c.in-Some.ensures
