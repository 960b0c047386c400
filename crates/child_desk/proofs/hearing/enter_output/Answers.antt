use Rattle.child_desk.specs.Book.{logged}
use Rattle.std.proofs.Common.{true, ◌++◌, [], ◌∷◌, ap, ◌∙◌}
use Rattle.child_desk.proofs.Kept.{leaves_output}
use Rattle.child_desk.proofs.Coming.{comes_entered}
use Rattle.child_desk.proofs.Hears.{adds_output}
use Rattle.child_desk.proofs.hearing.enter_output.Goals as goal

pub returns-clause-kept : goal.returns-clause-kept
returns-clause-kept c =
    leaves_output c.args.at c.args.child c.args.what c.output_event-event.result true c.args.book.now c.enter_taken.new.book c.enter_taken.ensures
    c.output_event-event.ensures c.requires.output.0

pub returns-clause-adds : goal.returns-clause-adds
returns-clause-adds c =
    let old = (logged c.args.book.now) in
    adds_output c.args.at c.args.child c.args.book.now.stamp c.args.what old (logged c.enter_taken.new.book)
    (c.enter_taken.ensures.2 ∙ ap (λ e. old ++ e ∷ []) c.output_event-event.ensures) c.requires.output.0

pub returns-clause-comes : goal.returns-clause-comes
returns-clause-comes c = comes_entered c.args.at c.args.child c.args.what c.output_event-event.result c.args.book.now c.enter_taken.new.book c.enter_taken.ensures c.output_event-event.ensures
