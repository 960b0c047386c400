use Rattle.std.proofs.Common.{◌<◌, List, length, sym, subst, ◌∙◌, arith}
use Rattle.child_events.specs.declared.event.HallEvent.{HallEvent}
use Rattle.child_events.specs.Reading.{parts}
use Rattle.child_events.proofs.Lines.{parts_some}
use Rattle.child_events.proofs.Judged.{line_left, next_is}
use Rattle.child_events.proofs.log_reader.LogReader.next.Goals as goal

pub overflow_add-self : goal.overflow_add-self
overflow_add-self c =
    let left : 0 < c.self.inside.left = line_left c.self.inside.numbers c.self.inside.number c.self.inside.left (parts 10 c.self.inside.rest.now) (subst (λ (es : List HallEvent). 0 < length es) (sym c.self.view_is) c.requires) in
    omega (arith, c.self.invariant.few, left)

pub overflow_sub-self : goal.overflow_sub-self
overflow_sub-self c = line_left c.self.inside.numbers c.self.inside.number c.self.inside.left (parts 10 c.self.inside.rest.now) (subst (λ (es : List HallEvent). 0 < length es) (sym c.self.view_is) c.requires)

pub invariant_of-self : goal.invariant_of-self
invariant_of-self c =
    let left : 0 < c.self.inside.left = line_left c.self.inside.numbers c.self.inside.number c.self.inside.left (parts 10 c.self.inside.rest.now) (subst (λ (es : List HallEvent). 0 < length es) (sym c.self.view_is) c.requires) in
    record {
      events = (next_is c.self.inside.numbers c.self.inside.number c.self.inside.left c.in-Some.line.now (parts 10 c.self.inside.rest.now) (parts 10 c.in-Some.behind.now) c.in-Ok.event
          c.in-Some.ensures.0 (parts_some 10 c.in-Some.behind.now) left c.self.invariant.events c.in-Ok.ensures).judged;
      few = omega (arith, c.self.invariant.few, left);
    }

pub returns-in-Ok : goal.returns-in-Ok
returns-in-Ok c =
    let left : 0 < c.self.inside.left = line_left c.self.inside.numbers c.self.inside.number c.self.inside.left (parts 10 c.self.inside.rest.now) (subst (λ (es : List HallEvent). 0 < length es) (sym c.self.view_is) c.requires) in
    sym c.self.view_is
    ∙ (next_is c.self.inside.numbers c.self.inside.number c.self.inside.left c.in-Some.line.now (parts 10 c.self.inside.rest.now) (parts 10 c.in-Some.behind.now) c.in-Ok.event
    c.in-Some.ensures.0 (parts_some 10 c.in-Some.behind.now) left c.self.invariant.events c.in-Ok.ensures).events
