use Rattle.child_desk.specs.Book.{logged}
use Rattle.child_desk.proofs.Hears.{all_then as hears_then}
use Rattle.child_desk.proofs.Kept.{all_then}
use Rattle.child_serve.proofs.Rounding.{kept_left, heard_left}
use Rattle.child_serve.proofs.rounds.last_turn.Goals as goal

pub returns-clause-kept : goal.returns-clause-kept
returns-clause-kept g c =
    let was = c.args.desk.now in
    let now = c.turn.new.desk in
    let left = c.end_record.new.desk in
    all_then was.lines.items now.lines.items left.lines.items was.ends.items now.ends.items left.ends.items was.book now.book left.book c.turn.ensures.kept
    (kept_left now.lines.items left.lines.items now.ends.items left.ends.items now.book left.book c.end_record.ensures.lines c.end_record.ensures.ends c.end_record.ensures.book)

pub returns-clause-heard : goal.returns-clause-heard
returns-clause-heard g c =
    let was = c.args.desk.now in
    let now = c.turn.new.desk in
    let left = c.end_record.new.desk in
    hears_then was.ends.items now.ends.items left.ends.items (logged was.book) (logged now.book) (logged left.book) c.turn.ensures.heard
    (heard_left now.ends.items left.ends.items now.book left.book c.end_record.ensures.ends c.end_record.ensures.log)
