use Rattle.std.proofs.Common.{◌+◌, arith, refl, sym, ap, subst, ◌∙◌}
use Rattle.std.proofs.lemmas.Result.{err_from_is_err_and}
use Rattle.std.specs.Prelude.{Result, ⊤}
use Rattle.child_events.specs.declared.child_numbers.ChildNumbers.{ChildNumbers}
use Rattle.child_events.specs.declared.faults.LogFault.{LogFault}
use Rattle.child_events.specs.Reading.{parts, line_event, numbers_in, none_where, with_line, lines_events, Reads}
use Rattle.child_events.specs.Judging.{Left}
use Rattle.child_events.proofs.Onward.{next_read, next_line}
use Rattle.child_events.proofs.log_lines.LogLines.next.Goals as goal

pub returns-in-Ok-clause-given : goal.returns-in-Ok-clause-given
returns-in-Ok-clause-given c = record {
  said = ap (λ (l : Left). l.said) (sym c.self.view_is) ∙ next_read c.self.inside.version c.self.inside.number c.self.inside.rest.now c.in-Some.line.now c.in-Some.behind.now c.in-Some.ensures.0 c.in-Ok.event (ap (λ (nums : ChildNumbers). line_event nums c.self.inside.number c.in-Some.line.now) (sym c.numbers.ensures) ∙ c.in-Ok.ensures);
  fewer = omega (arith, ap (λ (l : Left). l.bytes) (sym c.self.view_is), c.in-Some.ensures.1);
}

pub returns-in_err-end_at-in-Err-clause-refused : goal.returns-in_err-end_at-in-Err-clause-refused
returns-in_err-end_at-in-Err-clause-refused c =
    let p = err_from_is_err_and c.from_residual-in_err-end_at-in-Err.result c.from_residual-in_err-end_at-in-Err.ensures.1 in
    let v = c.self.inside.version in
    let n = c.self.inside.number in
    let others = lines_events v (n + 1) (parts 10 c.in-Some.behind.now) in
    let read = subst (λ (r : Result ⊤ LogFault). Reads (none_where r) (with_line v n c.in-Some.line.now (line_event (numbers_in v) n c.in-Some.line.now) (parts 10 c.in-Some.behind.now) others)) c.in_err-end_at-in-Err.was (c.end_at.ensures others) in
    rw (p.1, p.2) (λ other. ap (λ (l : Left). l.said) (sym c.self.view_is) ∙ next_line v n c.self.inside.rest.now c.in-Some.line.now c.in-Some.behind.now c.in-Some.ensures.0 ∙ read other)

pub returns-in_ok-end_at-in-Err-clause-given : goal.returns-in_ok-end_at-in-Err-clause-given
returns-in_ok-end_at-in-Err-clause-given c =
    let v = c.self.inside.version in
    let n = c.self.inside.number in
    let others = lines_events v (n + 1) (parts 10 c.in-Some.behind.now) in
    let read = subst (λ (r : Result ⊤ LogFault). Reads (none_where r) (with_line v n c.in-Some.line.now (line_event (numbers_in v) n c.in-Some.line.now) (parts 10 c.in-Some.behind.now) others)) c.in_ok-end_at-in-Err.was (c.end_at.ensures others) in
    (ap (λ (l : Left). l.said) (sym c.self.view_is) ∙ next_line v n c.self.inside.rest.now c.in-Some.line.now c.in-Some.behind.now c.in-Some.ensures.0 ∙ read, refl)
