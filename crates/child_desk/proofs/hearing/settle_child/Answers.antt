use Rattle.child_desk.specs.Book.{logged}
use Rattle.child_hands.specs.Record.{events_in}
use Rattle.std.proofs.Common.{List, ◌+◌, ap, subst, ◌∙◌}
use Rattle.child_events.specs.declared.event.HallEvent.{HallEvent}
use Rattle.child_desk.specs.Heard.{HearsAt}
use Rattle.child_desk.proofs.Kept.{leaves_same, leaves_then}
use Rattle.child_desk.proofs.Hears.{hears_at_then, left_step}
use Rattle.child_desk.proofs.hearing.settle_child.Goals as goal

pub loop-preserved : goal.loop-preserved
loop-preserved g c =
    let now = c.loop in
    let new = c.hear_left.new in
    record {
      kept = leaves_then c.args.book.now now.book new.book now.invariant.kept (leaves_then now.book c.await_room.new.self new.book (leaves_same now.book c.await_room.new.self c.await_room.ensures.looks) c.hear_left.ensures.kept);
      hand = (c.hear_left.ensures.hand.0 ∙ now.invariant.hand.0, c.hear_left.ensures.hand.1 ∙ now.invariant.hand.1);
      heard =
          hears_at_then (c.args.at + 1) c.args.index c.args.ends.now.readers now.ends.readers new.ends.readers (logged c.args.book.now) (logged now.book) (logged new.book)
          now.invariant.heard (subst (λ (es : List HallEvent). HearsAt (c.args.at + 1) c.args.index now.ends.readers es new.ends.readers (logged new.book)) (ap events_in c.await_room.ensures.looks.items) c.hear_left.ensures.heard);
      left = left_step c.args.index now.counter c.left-count.result c.left-count.new.finished now.ends.readers new.ends.readers c.loop-test.true now.invariant.left c.in_ok-hear_left.ensures.left;
      put = now.invariant.put;
    }

pub returns-in_err-hear_left-clause-hand : goal.returns-in_err-hear_left-clause-hand
returns-in_err-hear_left-clause-hand g c =
    let now = c.loop in
    (c.hear_left.ensures.hand.0 ∙ now.invariant.hand.0, c.hear_left.ensures.hand.1 ∙ now.invariant.hand.1)

pub returns-then-not-await_room-clause-kept : goal.returns-then-not-await_room-clause-kept
returns-then-not-await_room-clause-kept g c =
    let now = c.loop in
    leaves_then c.args.book.now now.book c.await_room.new.self now.invariant.kept (leaves_same now.book c.await_room.new.self c.await_room.ensures.looks)

pub returns-in_err-hear_left-clause-kept : goal.returns-in_err-hear_left-clause-kept
returns-in_err-hear_left-clause-kept g c =
    let now = c.loop in
    let new = c.hear_left.new in
    leaves_then c.args.book.now now.book new.book now.invariant.kept
    (leaves_then now.book c.await_room.new.self new.book (leaves_same now.book c.await_room.new.self c.await_room.ensures.looks) c.hear_left.ensures.kept)
