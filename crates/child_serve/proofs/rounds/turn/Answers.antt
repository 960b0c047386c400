use Rattle.child_desk.specs.Book.{logged}
use Rattle.child_desk.proofs.Hears.{all_then as hears_then}
use Rattle.child_desk.proofs.Kept.{all_then}
use Rattle.child_serve.proofs.Rounding.{kept_waiting, heard_waiting}
use Rattle.child_serve.proofs.rounds.turn.Goals as goal

pub returns-then-not-await_room-clause-kept : goal.returns-then-not-await_room-clause-kept
returns-then-not-await_room-clause-kept g c =
    let was = c.args.desk.now in
    let now = c.await_room.new.self in
    kept_waiting was.lines.items now.lines.items was.ends.items now.ends.items was.book now.book c.await_room.ensures.lines c.await_room.ensures.ends c.await_room.ensures.book

pub returns-then-not-await_room-clause-heard : goal.returns-then-not-await_room-clause-heard
returns-then-not-await_room-clause-heard g c =
    let was = c.args.desk.now in
    let now = c.await_room.new.self in
    heard_waiting was.ends.items now.ends.items was.book now.book c.await_room.ensures.ends c.await_room.ensures.book

pub returns-in_err-turn-clause-kept : goal.returns-in_err-turn-clause-kept
returns-in_err-turn-clause-kept g c =
    let was = c.args.desk.now in
    let now = c.await_room.new.self in
    let new = c.turn.new.self in
    all_then was.lines.items now.lines.items new.lines.items was.ends.items now.ends.items new.ends.items was.book now.book new.book
    (kept_waiting was.lines.items now.lines.items was.ends.items now.ends.items was.book now.book c.await_room.ensures.lines c.await_room.ensures.ends c.await_room.ensures.book) c.turn.ensures.kept

pub returns-in_err-turn-clause-heard : goal.returns-in_err-turn-clause-heard
returns-in_err-turn-clause-heard g c =
    let was = c.args.desk.now in
    let now = c.await_room.new.self in
    let new = c.turn.new.self in
    hears_then was.ends.items now.ends.items new.ends.items (logged was.book) (logged now.book) (logged new.book)
    (heard_waiting was.ends.items now.ends.items was.book now.book c.await_room.ensures.ends c.await_room.ensures.book) c.turn.ensures.heard

pub returns-clause-kept : goal.returns-clause-kept
returns-clause-kept g c =
    let was = c.args.desk.now in
    let now = c.await_room.new.self in
    let new = c.turn.new.self in
    all_then was.lines.items now.lines.items new.lines.items was.ends.items now.ends.items new.ends.items was.book now.book new.book
    (kept_waiting was.lines.items now.lines.items was.ends.items now.ends.items was.book now.book c.await_room.ensures.lines c.await_room.ensures.ends c.await_room.ensures.book) c.turn.ensures.kept

pub returns-clause-heard : goal.returns-clause-heard
returns-clause-heard g c =
    let was = c.args.desk.now in
    let now = c.await_room.new.self in
    let new = c.turn.new.self in
    hears_then was.ends.items now.ends.items new.ends.items (logged was.book) (logged now.book) (logged new.book)
    (heard_waiting was.ends.items now.ends.items was.book now.book c.await_room.ensures.ends c.await_room.ensures.book) c.turn.ensures.heard
