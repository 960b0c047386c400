use Rattle.std.proofs.Common.{true, ◌∷◌, [], sym, subst}
use Rattle.child_desk.specs.Line.{Keeps}
use Rattle.child_desk.specs.Told.{Rings, Asks, Stops, rings_of}
use Rattle.child_desk.proofs.Kept.{keeps_sent, rings_asked}
use Rattle.child_desk.proofs.attending.prepare.Goals as goal

pub returns-in-Some-clause-kept : goal.returns-in-Some-clause-kept
returns-in-Some-clause-kept g c =
    let ends = c.args.ends.now in
    let book = c.args.book.now in
    let line = c.args.line.now in
    subst (λ (rs : Rings). Keeps (rings_of ends) rs c.args.at line book (record line { sent = true }) book) (sym (rings_asked ends c.send.new.self (Asks _ ∷ []) c.send.ensures.rings.1 c.in_ok-send.ensures.asked))
    (keeps_sent (rings_of ends) c.args.at line _ book c.requires.open c.if-line.false c.in-Some.is)

pub returns-then-enter_end-clause-kept : goal.returns-then-enter_end-clause-kept
returns-then-enter_end-clause-kept g c =
    let ends = c.args.ends.now in
    let book = c.args.book.now in
    subst (λ (rs : Rings). Keeps (rings_of ends) rs c.args.at c.args.line.now book c.enter_end.new.line book) (sym (rings_asked ends c.stop.new.self (Stops ∷ []) c.stop.ensures.rings.1 (c.stop.ensures.asked c.requires.free)))
    ((c.enter_end.ensures.ended c.if-enter_end.true).0 (rings_of ends))
