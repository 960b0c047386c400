use Rattle.std.proofs.Common.{ap, ◌∙◌, ◌++◌, ◌+◌, ◌∷◌, [], List, refl, append-nil}
use Rattle.child_events.specs.World.{own}
use Rattle.child_events.specs.declared.event.HallEvent.{HallEvent}
use Rattle.child_desk.specs.Book.{logged}
use Rattle.child_hands.specs.Record.{events_in}
use Rattle.child_desk.specs.Told.{telling_of, telling, told_of, replies_in, heard_of_hand, rings_of}
use Rattle.child_desk.proofs.Kept.{leaves_same, keeps_left, keeps_rings, keeps_behind, rings_kept, rings_told}
use Rattle.child_desk.proofs.Coming.{comes_same, comes_then, hand_silent, hand_told}
use Rattle.child_desk.proofs.Hears.{unheard_on}
use Rattle.child_desk.proofs.attending.hear_answer.Goals as goal

pub returns-then-not-has_room-clause-kept : goal.returns-then-not-has_room-clause-kept
returns-then-not-has_room-clause-kept g c =
    keeps_left (rings_of c.args.ends.now) c.args.at c.args.line.now c.args.book.now c.has_room.new.self (leaves_same c.args.book.now c.has_room.new.self c.has_room.ensures.looks)

pub returns-then-not-has_room-clause-comes : goal.returns-then-not-has_room-clause-comes
returns-then-not-has_room-clause-comes g c = comes_same c.args.at c.args.book.now c.has_room.new.self c.has_room.ensures.looks.hall (ap events_in c.has_room.ensures.looks.items) c.has_room.ensures.looks.stamp

pub returns-then-not-has_room-clause-entered : goal.returns-then-not-has_room-clause-entered
returns-then-not-has_room-clause-entered g c = λ keeper script l.
    let told = heard_of_hand c.args.ends.now.answers in
    hand_silent c.args.at c.args.line.now told told (logged c.args.book.now) (logged c.has_room.new.self) refl (ap (λ (es : List HallEvent). replies_in (own (c.args.at + 1) es)) (ap events_in c.has_room.ensures.looks.items))

pub returns-in_default-clause-kept : goal.returns-in_default-clause-kept
returns-in_default-clause-kept g c =
    let ends = c.args.ends.now in
    let told = heard_of_hand ends.answers in
    keeps_rings (rings_of ends) (rings_of c.next_answer.new.self) c.args.at c.args.line.now c.args.book.now c.has_room.new.self
    (rings_kept ends c.next_answer.new.self (c.next_answer.ensures.told ∙ ap (λ r. told ++ told_of r) c.in_default.is ∙ append-nil told) c.next_answer.ensures.asked)
    (leaves_same c.args.book.now c.has_room.new.self c.has_room.ensures.looks)

pub returns-in_default-clause-comes : goal.returns-in_default-clause-comes
returns-in_default-clause-comes g c = comes_same c.args.at c.args.book.now c.has_room.new.self c.has_room.ensures.looks.hall (ap events_in c.has_room.ensures.looks.items) c.has_room.ensures.looks.stamp

pub returns-in_default-clause-entered : goal.returns-in_default-clause-entered
returns-in_default-clause-entered g c = λ keeper script l.
    let told = heard_of_hand c.args.ends.now.answers in
    hand_silent c.args.at c.args.line.now told (heard_of_hand c.next_answer.new.self.answers) (logged c.args.book.now) (logged c.has_room.new.self)
    (c.next_answer.ensures.told ∙ ap (λ r. told ++ told_of r) c.in_default.is ∙ append-nil told) (ap (λ (es : List HallEvent). replies_in (own (c.args.at + 1) es)) (ap events_in c.has_room.ensures.looks.items))

pub returns-clause-kept : goal.returns-clause-kept
returns-clause-kept g c =
    let ends = c.args.ends.now in
    let more = telling_of c.in-Some.answered ∷ [] in
    let new = c.count_start.new.self in
    keeps_behind (rings_of ends) (telling (rings_of ends) more) (rings_of new) c.args.at c.args.line.now c.enter_answer-entered.new.line c.args.book.now c.has_room.new.self c.enter_answer-entered.new.book
    (rings_told ends new more (ap heard_of_hand c.count_start.ensures.rings.1 ∙ c.in-Some.ensures.told) (c.count_start.ensures.asked ∙ c.in-Some.ensures.asked))
    (leaves_same c.args.book.now c.has_room.new.self c.has_room.ensures.looks) (c.enter_answer-entered.ensures.kept (rings_of ends))

pub returns-clause-silent : goal.returns-clause-silent
returns-clause-silent g c = unheard_on _ _ (logged c.enter_answer-entered.new.book) (ap events_in c.has_room.ensures.looks.items) c.enter_answer-entered.ensures.silent

pub returns-clause-comes : goal.returns-clause-comes
returns-clause-comes g c =
    comes_then c.args.at c.args.book.now c.has_room.new.self c.enter_answer-entered.new.book
    (comes_same c.args.at c.args.book.now c.has_room.new.self c.has_room.ensures.looks.hall (ap events_in c.has_room.ensures.looks.items) c.has_room.ensures.looks.stamp) c.enter_answer-entered.ensures.comes

pub returns-clause-entered : goal.returns-clause-entered
returns-clause-entered g c = λ keeper script l.
    let ends = c.args.ends.now in
    let left = leaves_same c.args.book.now c.has_room.new.self c.has_room.ensures.looks in
    hand_told c.args.at c.args.line.now (telling_of c.in-Some.answered) (heard_of_hand ends.answers) (heard_of_hand c.count_start.new.self.answers) c.args.book.now c.has_room.new.self c.enter_answer-entered.new.book
    (ap heard_of_hand c.count_start.ensures.rings.1 ∙ c.in-Some.ensures.told) (ap events_in c.has_room.ensures.looks.items)
    (c.enter_answer-entered.ensures.entered (rings_of ends) keeper script (left.lines (rings_of ends) keeper script c.args.at c.args.line.now l))
