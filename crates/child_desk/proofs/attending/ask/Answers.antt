use Rattle.std.proofs.Common.{inr, ap, subst, ◌∙◌}
use Rattle.child_desk.specs.declared.line.ScriptState.{ScriptState}
use Rattle.child_desk.specs.Line.{Keeps}
use Rattle.child_desk.specs.Told.{Rings, heard_of_hand, rings_of}
use Rattle.child_desk.proofs.Kept.{keeps_then, keeps_then_left, keeps_rings, leaves_all, rings_kept}
use Rattle.child_desk.proofs.attending.ask.Goals as goal

pub returns-then-line-clause-kept : goal.returns-then-line-clause-kept
returns-then-line-clause-kept g c =
    let ends = c.args.ends.now in
    let new = c.flush-put.new.self in
    keeps_rings (rings_of ends) (rings_of new) c.args.at c.args.line.now c.args.book.now c.args.book.now (rings_kept ends new (ap heard_of_hand c.flush-put.ensures.rings.1) c.flush-put.ensures.asked) (leaves_all c.args.book.now)

pub returns-then-is_waiting-clause-kept : goal.returns-then-is_waiting-clause-kept
returns-then-is_waiting-clause-kept g c =
    let ends = c.args.ends.now in
    let new = c.flush-put.new.self in
    keeps_rings (rings_of ends) (rings_of new) c.args.at c.args.line.now c.args.book.now c.args.book.now (rings_kept ends new (ap heard_of_hand c.flush-put.ensures.rings.1) c.flush-put.ensures.asked) (leaves_all c.args.book.now)

pub prepare-requires-clause-open : goal.prepare-requires-clause-open
prepare-requires-clause-open g c κs within = ap (λ (l : ScriptState). l.over) c.ask_next.ensures.line ∙ c.if-line.false

pub returns-in_err-prepare-clause-kept : goal.returns-in_err-prepare-clause-kept
returns-in_err-prepare-clause-kept g c =
    let ends = c.args.ends.now in
    let put = c.flush-put.new.self in
    let next = c.ask_next.new in
    let made = c.prepare.new in
    subst (λ (rs : Rings). Keeps rs (rings_of made.ends) c.args.at c.args.line.now c.args.book.now made.line next.book) (rings_kept ends put (ap heard_of_hand c.flush-put.ensures.rings.1) c.flush-put.ensures.asked)
    (keeps_then (rings_of put) (rings_of put) (rings_of made.ends) c.args.at c.args.line.now next.line made.line c.args.book.now next.book next.book (c.ask_next.ensures.kept (rings_of put)) c.prepare.ensures.kept)

pub returns-clause-kept : goal.returns-clause-kept
returns-clause-kept g c =
    let ends = c.args.ends.now in
    let put = c.flush-put.new.self in
    let next = c.ask_next.new in
    let made = c.prepare.new in
    let last = c.flush.new.self in
    subst (λ (rs : Rings). Keeps rs (rings_of last) c.args.at c.args.line.now c.args.book.now made.line next.book) (rings_kept ends put (ap heard_of_hand c.flush-put.ensures.rings.1) c.flush-put.ensures.asked)
    (keeps_then (rings_of put) (rings_of put) (rings_of last) c.args.at c.args.line.now next.line made.line c.args.book.now next.book next.book (c.ask_next.ensures.kept (rings_of put))
    (keeps_then_left (rings_of put) (rings_of made.ends) (rings_of last) c.args.at next.line made.line next.book next.book next.book
    (rings_kept made.ends last (ap heard_of_hand c.flush.ensures.rings.1) c.flush.ensures.asked) c.prepare.ensures.kept (leaves_all next.book)))

pub returns-clause-asked : goal.returns-clause-asked
returns-clause-asked g c = inr c.in_ok-prepare.ensures.served
