use Rattle.std.proofs.Common.{sym, ap, ◌∙◌}
use Rattle.child_events.specs.Reading.{parts}
use Rattle.child_events.proofs.Lines.{crowded}
use Rattle.child_events.proofs.line.read_fields.Goals as goal

pub returns-in-Some-further : goal.returns-in-Some-further
returns-in-Some-further c =
    sym (crowded c.args.numbers c.args.number c.args.line.now c.in-Some.kind.now c.in-Some-split_first.script.now c.in-Some-split_first-2.child.now c.in-Some-split_first-3.moment.now
    c.in-Some-further.field-0.0.now c.in-Some.rest.now c.in-Some-split_first.rest.now c.in-Some-split_first-2.rest.now c.in-Some-split_first-3.held.now
    c.in-Some-further.field-0.1.now c.in-Some.ensures.0 c.in-Some-split_first.ensures.0 c.in-Some-split_first-2.ensures.0 c.in-Some-split_first-3.ensures.0
    (ap (parts 32) (sym c.new-held.ensures) ∙ c.in-Some-further.ensures.0))
