use Rattle.child_desk.specs.Book.{logged}
use Rattle.std.proofs.Common.{◌+◌, refl}
use Rattle.child_desk.proofs.Hears.{takes_none, hears_at_none, hears_taken, left_by}
use Rattle.child_desk.proofs.hearing.hear_left.Goals as goal

pub returns-in_err-room-clause-heard : goal.returns-in_err-room-clause-heard
returns-in_err-room-clause-heard g c =
    let rs = c.args.ends.now.readers in
    hears_at_none (c.args.at + 1) c.args.index rs rs (logged c.args.book.now) (logged c.args.book.now) (takes_none c.args.index rs) refl

pub returns-clause-heard : goal.returns-clause-heard
returns-clause-heard g c =
    let rs = c.args.ends.now.readers in
    hears_taken (c.args.at + 1) c.args.index rs rs c.next_left-taken.new.self c.enter_heard.new.ends.readers
    (logged c.args.book.now) (logged c.args.book.now) (logged c.enter_heard.new.book) c.next_left-taken.result
    (takes_none c.args.index rs) refl c.next_left-taken.ensures.taken c.enter_heard.ensures.rings.0 c.enter_heard.ensures.adds

pub returns-clause-left : goal.returns-clause-left
returns-clause-left g c = left_by c.args.index c.args.ends.now.readers c.next_left-taken.new.self c.enter_heard.new.ends.readers c.enter_heard.ensures.rings.0 c.next_left-taken.ensures.left
