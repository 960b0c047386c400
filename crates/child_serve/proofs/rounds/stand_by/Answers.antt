use Rattle.std.proofs.Common.{sym, ap, subst, ◌∙◌}
use Rattle.child_desk.specs.Book.{logged}
use Rattle.child_desk.specs.Heard.{HearsAll}
use Rattle.child_serve.proofs.Rounding.{stood_by}
use Rattle.child_serve.proofs.rounds.stand_by.Goals as goal

pub returns-clause-kept : goal.returns-clause-kept
returns-clause-kept g c =
    let was = c.args.desk.now in
    let still = c.still.new.self in
    let left = c.rest.new.desk in
    stood_by was.lines.items still.lines.items left.lines.items was.ends.items still.ends.items left.ends.items was.book still.book left.book
    c.still.ensures.lines c.still.ensures.ends c.still.ensures.book c.rest.ensures.same.0 c.rest.ensures.hands c.rest.ensures.same.1

pub returns-clause-heard : goal.returns-clause-heard
returns-clause-heard g c =
    let left = c.rest.new.desk in
    subst (λ es. HearsAll c.args.desk.now.ends.items es left.ends.items (logged left.book)) c.still.ensures.log
    (subst (λ ds. HearsAll ds (logged c.still.new.self.book) left.ends.items (logged left.book)) c.still.ensures.ends c.rest.ensures.heard)
