use Rattle.std.proofs.Common.{List, ◌+◌, ap, ◌∙◌}
use Rattle.child_events.specs.World.{own}
use Rattle.child_events.specs.declared.event.HallEvent.{HallEvent}
use Rattle.child_desk.specs.Book.{logged}
use Rattle.child_desk.specs.Told.{heard_of_hand, rings_of, replies_in}
use Rattle.child_desk.proofs.Kept.{keeps_then_left, keeps_three, rings_kept}
use Rattle.child_desk.proofs.Coming.{comes_then, hand_on}
use Rattle.child_desk.proofs.Hears.{hears_silent, hears_then, hears_three}
use Rattle.child_desk.proofs.attending.attend.Goals as goal

pub returns-in_err-heard-clause-kept : goal.returns-in_err-heard-clause-kept
returns-in_err-heard-clause-kept g c =
    keeps_then_left (rings_of c.args.ends.now) (rings_of c.hear_answer-answered.new.ends) (rings_of c.hear_children.new.ends) c.args.at c.args.line.now c.hear_answer-answered.new.line
    c.args.book.now c.hear_answer-answered.new.book c.hear_children.new.book (rings_kept c.hear_answer-answered.new.ends c.hear_children.new.ends (ap heard_of_hand c.hear_children.ensures.hand.0) c.hear_children.ensures.hand.1)
    c.hear_answer-answered.ensures.kept c.hear_children.ensures.kept

pub returns-in_err-heard-clause-heard : goal.returns-in_err-heard-clause-heard
returns-in_err-heard-clause-heard g c =
    let was = c.args.ends.now.readers in
    let log = (logged c.args.book.now) in
    let mid = c.hear_answer-answered.new in
    hears_then (c.args.at + 1) was mid.ends.readers c.hear_children.new.ends.readers log (logged mid.book) (logged c.hear_children.new.book)
    (hears_silent (c.args.at + 1) was mid.ends.readers log (logged mid.book) c.hear_answer-answered.ensures.readers c.hear_answer-answered.ensures.silent) c.hear_children.ensures.heard

pub returns-in_err-asked-clause-kept : goal.returns-in_err-asked-clause-kept
returns-in_err-asked-clause-kept g c =
    keeps_three (rings_of c.args.ends.now) (rings_of c.hear_answer-answered.new.ends) (rings_of c.hear_children.new.ends) (rings_of c.ask.new.ends) c.args.at c.args.line.now c.hear_answer-answered.new.line c.ask.new.line
    c.args.book.now c.hear_answer-answered.new.book c.hear_children.new.book c.ask.new.book (rings_kept c.hear_answer-answered.new.ends c.hear_children.new.ends (ap heard_of_hand c.hear_children.ensures.hand.0) c.hear_children.ensures.hand.1)
    c.hear_answer-answered.ensures.kept c.hear_children.ensures.kept c.ask.ensures.kept

pub returns-in_err-asked-clause-heard : goal.returns-in_err-asked-clause-heard
returns-in_err-asked-clause-heard g c =
    hears_three (c.args.at + 1) c.args.ends.now.readers c.hear_answer-answered.new.ends.readers c.hear_children.new.ends.readers c.ask.new.ends.readers
    (logged c.args.book.now) (logged c.hear_answer-answered.new.book) (logged c.hear_children.new.book) (logged c.ask.new.book)
    c.hear_answer-answered.ensures.readers c.hear_answer-answered.ensures.silent c.hear_children.ensures.heard c.ask.ensures.rings.0 c.ask.ensures.log

pub returns-clause-kept : goal.returns-clause-kept
returns-clause-kept g c =
    keeps_three (rings_of c.args.ends.now) (rings_of c.hear_answer-answered.new.ends) (rings_of c.hear_children.new.ends) (rings_of c.ask.new.ends) c.args.at c.args.line.now c.hear_answer-answered.new.line c.ask.new.line
    c.args.book.now c.hear_answer-answered.new.book c.hear_children.new.book c.ask.new.book (rings_kept c.hear_answer-answered.new.ends c.hear_children.new.ends (ap heard_of_hand c.hear_children.ensures.hand.0) c.hear_children.ensures.hand.1)
    c.hear_answer-answered.ensures.kept c.hear_children.ensures.kept c.ask.ensures.kept

pub returns-clause-heard : goal.returns-clause-heard
returns-clause-heard g c =
    hears_three (c.args.at + 1) c.args.ends.now.readers c.hear_answer-answered.new.ends.readers c.hear_children.new.ends.readers c.ask.new.ends.readers
    (logged c.args.book.now) (logged c.hear_answer-answered.new.book) (logged c.hear_children.new.book) (logged c.ask.new.book)
    c.hear_answer-answered.ensures.readers c.hear_answer-answered.ensures.silent c.hear_children.ensures.heard c.ask.ensures.rings.0 c.ask.ensures.log

pub returns-in_err-heard-clause-comes : goal.returns-in_err-heard-clause-comes
returns-in_err-heard-clause-comes g c = comes_then c.args.at c.args.book.now c.hear_answer-answered.new.book c.hear_children.new.book c.hear_answer-answered.ensures.comes c.hear_children.ensures.comes

pub returns-in_err-heard-clause-entered : goal.returns-in_err-heard-clause-entered
returns-in_err-heard-clause-entered g c = λ keeper script l.
    let mid = c.hear_answer-answered.new in
    let new = c.hear_children.new in
    hand_on c.args.at c.args.line.now (heard_of_hand c.args.ends.now.answers) (heard_of_hand mid.ends.answers) (heard_of_hand new.ends.answers) (logged c.args.book.now) (logged mid.book) (logged new.book)
    (c.hear_answer-answered.ensures.entered keeper script l) (ap heard_of_hand c.hear_children.ensures.hand.0) (c.hear_children.ensures.kept.answers (c.args.at + 1))

pub returns-in_err-asked-clause-comes : goal.returns-in_err-asked-clause-comes
returns-in_err-asked-clause-comes g c =
    comes_then c.args.at c.args.book.now c.hear_children.new.book c.ask.new.book
    (comes_then c.args.at c.args.book.now c.hear_answer-answered.new.book c.hear_children.new.book c.hear_answer-answered.ensures.comes c.hear_children.ensures.comes) c.ask.ensures.comes

pub returns-in_err-asked-clause-entered : goal.returns-in_err-asked-clause-entered
returns-in_err-asked-clause-entered g c = λ keeper script l.
    let mid = c.hear_answer-answered.new in
    let new = c.ask.new in
    hand_on c.args.at c.args.line.now (heard_of_hand c.args.ends.now.answers) (heard_of_hand mid.ends.answers) (heard_of_hand new.ends.answers) (logged c.args.book.now) (logged mid.book) (logged new.book)
    (c.hear_answer-answered.ensures.entered keeper script l) (ap heard_of_hand (c.ask.ensures.rings.1 ∙ c.hear_children.ensures.hand.0))
    (ap (λ (es : List HallEvent). replies_in (own (c.args.at + 1) es)) c.ask.ensures.log ∙ c.hear_children.ensures.kept.answers (c.args.at + 1))

pub returns-clause-comes : goal.returns-clause-comes
returns-clause-comes g c =
    comes_then c.args.at c.args.book.now c.hear_children.new.book c.ask.new.book
    (comes_then c.args.at c.args.book.now c.hear_answer-answered.new.book c.hear_children.new.book c.hear_answer-answered.ensures.comes c.hear_children.ensures.comes) c.ask.ensures.comes

pub returns-clause-entered : goal.returns-clause-entered
returns-clause-entered g c = λ keeper script l.
    let mid = c.hear_answer-answered.new in
    let new = c.ask.new in
    hand_on c.args.at c.args.line.now (heard_of_hand c.args.ends.now.answers) (heard_of_hand mid.ends.answers) (heard_of_hand new.ends.answers) (logged c.args.book.now) (logged mid.book) (logged new.book)
    (c.hear_answer-answered.ensures.entered keeper script l) (ap heard_of_hand (c.ask.ensures.rings.1 ∙ c.hear_children.ensures.hand.0))
    (ap (λ (es : List HallEvent). replies_in (own (c.args.at + 1) es)) c.ask.ensures.log ∙ c.hear_children.ensures.kept.answers (c.args.at + 1))
