use Rattle.std.proofs.Common.{ap, ◌∙◌}
use Rattle.child_hands.specs.Record.{events_in}
use Rattle.child_desk.proofs.Kept.{leaves_same, leaves_then}
use Rattle.child_serve.proofs.rounds.end_record.Goals as goal

pub returns-then-not-await_room-clause-book : goal.returns-then-not-await_room-clause-book
returns-then-not-await_room-clause-book g c = leaves_same c.args.desk.now.book c.await_room.new.self.book c.await_room.ensures.book

pub returns-then-not-await_room-clause-log : goal.returns-then-not-await_room-clause-log
returns-then-not-await_room-clause-log g c = ap events_in c.await_room.ensures.book.items

pub returns-clause-lines : goal.returns-clause-lines
returns-clause-lines g c = c.still.ensures.lines ∙ c.await_room.ensures.lines

pub returns-clause-ends : goal.returns-clause-ends
returns-clause-ends g c = c.still.ensures.ends ∙ c.await_room.ensures.ends

pub returns-clause-book : goal.returns-clause-book
returns-clause-book g c =
    let was = c.args.desk.now.book in
    let now = c.await_room.new.self.book in
    leaves_then was now c.still.new.self.book (leaves_same was now c.await_room.ensures.book) c.still.ensures.book

pub returns-clause-log : goal.returns-clause-log
returns-clause-log g c = c.still.ensures.log ∙ ap events_in c.await_room.ensures.book.items
