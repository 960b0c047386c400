use Rattle.feed_rings.specs.Ends.{put_items}
use Rattle.child_desk.specs.Book.{logged, ring_log}
use Rattle.std.proofs.Common.{true, length, sym, ap, ◌∙◌}
use Rattle.child_desk.proofs.Kept.{leaves_ticked}
use Rattle.child_desk.proofs.Coming.{later, tick_taken, ticked, not_ticked}
use Rattle.child_desk.proofs.Hears.{tick_unheard, unheard_on}
use Rattle.child_desk.proofs.attending.tick.Goals as goal

pub returns-then-not-goes_on-clause-ticked : goal.returns-then-not-goes_on-clause-ticked
returns-then-not-goes_on-clause-ticked c = not_ticked c.args.now c.args.book.now (sym c.goes_on.ensures ∙ c.if-not-goes_on.true)

pub enter_taken-requires-clause-taken : goal.enter_taken-requires-clause-taken
enter_taken-requires-clause-taken c = tick_taken (length c.set_stamp.new.book.hall) c.args.book.now.stamp c.args.now (sym c.goes_on.ensures ∙ c.if-not-goes_on.false)

pub returns-clause-kept : goal.returns-clause-kept
returns-clause-kept c =
    leaves_ticked c.args.now c.args.book.now c.set_stamp.new.book c.enter_taken.new.book c.set_stamp.ensures.hall
    c.set_stamp.ensures.log c.set_stamp.ensures.stamp
    (later c.args.book.now.stamp c.args.now (sym c.goes_on.ensures ∙ c.if-not-goes_on.false)) c.enter_taken.ensures

pub returns-clause-silent : goal.returns-clause-silent
returns-clause-silent c =
    unheard_on (logged c.args.book.now) (logged c.set_stamp.new.book) (logged c.enter_taken.new.book) (ap ring_log c.set_stamp.ensures.log)
    (tick_unheard c.args.now true c.set_stamp.new.book c.enter_taken.new.book c.enter_taken.ensures)

pub returns-clause-ticked : goal.returns-clause-ticked
returns-clause-ticked c =
    ticked c.args.now c.args.book.now c.set_stamp.new.book c.enter_taken.new.book (sym c.goes_on.ensures ∙ c.if-not-goes_on.false)
    (ap ring_log c.set_stamp.ensures.log) c.set_stamp.ensures.stamp c.enter_taken.ensures
