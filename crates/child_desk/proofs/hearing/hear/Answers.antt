use Rattle.child_desk.specs.Book.{logged}
use Rattle.child_hands.specs.Record.{events_in}
use Rattle.std.proofs.Common.{◌+◌, ap}
use Rattle.child_desk.proofs.Hears.{hears_taken}
use Rattle.child_desk.proofs.hearing.hear.Goals as goal

pub returns-clause-heard : goal.returns-clause-heard
returns-clause-heard g c =
    hears_taken (c.args.at + 1) c.args.index c.args.ends.now.readers c.seems_empty.new.self c.next-taken.new.self c.enter_heard.new.ends.readers
    (logged c.args.book.now) (logged c.has_room.new.self) (logged c.enter_heard.new.book) c.next-taken.result
    c.seems_empty.ensures (ap events_in c.has_room.ensures.looks.items) c.next-taken.ensures c.enter_heard.ensures.rings.0 c.enter_heard.ensures.adds
