use Rattle.std.proofs.Common.{◌≡◌, ℕ, Bool, false, true, [], ◌∷◌, ◌++◌, None, sym, subst, ◌∙◌}
use Rattle.std.specs.Prelude.{Contains}
use Rattle.std.proofs.lemmas.List.Elements.{Contains-append_left, Contains-push}
use Rattle.child_events.specs.declared.event.What.TheVariants as what
use Rattle.child_desk.specs.declared.line.ScriptState.{ScriptState}
use Rattle.child_desk.specs.Book.{Enters}
use Rattle.child_desk.specs.Told.{telling_of, telling}
use Rattle.child_desk.specs.Line.{Keeps}
use Rattle.child_desk.proofs.Kept.{keeps_answered, keeps_more, keeps_refused}
use Rattle.child_desk.proofs.Coming.{comes_all, comes_tried, told_awaited, told_passed}
use Rattle.child_desk.proofs.Lining.{never_refused}
use Rattle.child_desk.proofs.Hears.{answer_unheard}
use Rattle.child_desk.proofs.line.enter_answer.Goals as goal

pub returns-then-not-is_awaited-clause-kept : goal.returns-then-not-is_awaited-clause-kept
returns-then-not-is_awaited-clause-kept g c = λ rings.
    let more = telling_of c.args.answered ∷ [] in
    keeps_more rings (rings.told ++ more) c.args.at c.args.line.now c.args.book.now (λ t. Contains-append_left rings.told more t)

pub returns-then-not-is_awaited-clause-comes : goal.returns-then-not-is_awaited-clause-comes
returns-then-not-is_awaited-clause-comes g c = comes_all c.args.at c.args.book.now

pub returns-then-not-is_awaited-clause-entered : goal.returns-then-not-is_awaited-clause-entered
returns-then-not-is_awaited-clause-entered g c = λ rings keeper script l.
    told_passed c.args.at c.args.line.now (telling_of c.args.answered) c.args.book.now (λ is. (let e : false ≡ true = sym c.if-not-is_awaited.true ∙ c.is_awaited.ensures.1 is in cc))

pub returns-then-not-enter-clause-kept : goal.returns-then-not-enter-clause-kept
returns-then-not-enter-clause-kept g c = λ rings.
    let more = telling_of c.args.answered ∷ [] in
    keeps_refused rings (rings.told ++ more) c.args.at c.args.line.now c.answer_event-event.result c.args.book.now c.enter.new.book
    (subst (λ (b : Bool). Enters c.answer_event-event.result b c.args.book.now c.enter.new.book) c.if-not-enter.true c.enter.ensures) (λ t. Contains-append_left rings.told more t)

pub returns-then-not-enter-clause-comes : goal.returns-then-not-enter-clause-comes
returns-then-not-enter-clause-comes g c =
    let a = c.args.answered in
    comes_tried c.args.at a.request.child (what.Answer a.answer) c.answer_event-event.result c.enter.result c.args.book.now c.enter.new.book c.enter.ensures c.answer_event-event.ensures

pub returns-then-not-enter-clause-entered : goal.returns-then-not-enter-clause-entered
returns-then-not-enter-clause-entered g c = λ rings keeper script l.
    let a = c.args.answered in
    let refused = (subst (λ (b : Bool). Enters c.answer_event-event.result b c.args.book.now c.enter.new.book) c.if-not-enter.true c.enter.ensures).1 in
    absurd (never_refused rings keeper script c.args.at c.args.line.now c.args.book.now a.request a.answer c.answer_event-event.result c.answer_event-event.ensures c.args.book.now.within (c.is_awaited.ensures.0 c.if-not-is_awaited.false).1 l refused)

pub returns-clause-kept : goal.returns-clause-kept
returns-clause-kept g c = λ rings.
    let a = c.args.answered in
    let more = telling_of a ∷ [] in
    let line = c.args.line.now in
    let awaited = c.is_awaited.ensures.0 c.if-not-is_awaited.false in
    subst (λ (x : ScriptState). Keeps rings (telling rings more) c.args.at line c.args.book.now x c.enter.new.book) (sym c.go_on.ensures)
    (subst (λ (n : ℕ). Keeps rings (telling rings more) c.args.at line c.args.book.now (record line { last = n; awaited = None; sent = false }) c.enter.new.book) (sym awaited.3)
    (keeps_answered rings (rings.told ++ more) c.args.at line c.answer_event-event.result c.args.book.now c.enter.new.book a.request a.answer
    (subst (λ (b : Bool). Enters c.answer_event-event.result b c.args.book.now c.enter.new.book) c.if-not-enter.false c.enter.ensures)
    c.answer_event-event.ensures awaited.0 awaited.1 (λ t. Contains-append_left rings.told more t)
    (subst (λ (n : ℕ). Contains (rings.told ++ more) (record { name = line.name; call = n; request = a.request; answer = a.answer })) awaited.3
    (subst (λ (n : ℕ). Contains (rings.told ++ more) (record { name = n; call = a.call; request = a.request; answer = a.answer })) awaited.2 (Contains-push rings.told (telling_of a))))))

pub returns-clause-silent : goal.returns-clause-silent
returns-clause-silent g c =
    let a = c.args.answered in
    answer_unheard c.args.at a.request.child c.args.book.now.stamp a.answer c.answer_event-event.result c.enter.result c.args.book.now c.enter.new.book c.answer_event-event.ensures c.enter.ensures

pub returns-clause-comes : goal.returns-clause-comes
returns-clause-comes g c =
    let a = c.args.answered in
    comes_tried c.args.at a.request.child (what.Answer a.answer) c.answer_event-event.result c.enter.result c.args.book.now c.enter.new.book c.enter.ensures c.answer_event-event.ensures

pub returns-clause-entered : goal.returns-clause-entered
returns-clause-entered g c = λ rings keeper script l.
    let a = c.args.answered in
    told_awaited c.args.at c.args.line.now (telling_of a) c.answer_event-event.result c.args.book.now c.enter.new.book (c.is_awaited.ensures.0 c.if-not-is_awaited.false) c.answer_event-event.ensures
    (subst (λ (b : Bool). Enters c.answer_event-event.result b c.args.book.now c.enter.new.book) c.if-not-enter.false c.enter.ensures)
