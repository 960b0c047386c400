use Rattle.std.proofs.Common.{◌∙◌, Ok, Err, sym, ap, arith}
use Rattle.std.proofs.lemmas.Result.{err_from_is_err_and}
use Rattle.child_events.specs.declared.child_numbers.ChildNumbers.{ChildNumbers}
use Rattle.child_events.specs.Reading.{parts, line_event, lines_events}
use Rattle.child_events.specs.Judging.{judged}
use Rattle.child_events.proofs.Lines.{line_ended, parts_some}
use Rattle.child_events.proofs.Judged.{judged_more, judges, is_fault}
use Rattle.child_events.proofs.judging.judge_lines.Goals as goal

pub lines-preserved : goal.lines-preserved
lines-preserved c = record {
  to = judged_more c.args.version c.args.first c.args.bytes.now c.lines.rest.now c.in-Some.line.now c.in-Some.behind.now c.lines.number c.lines.seen
      c.lines.invariant.to c.in-Some.ensures.0 (parts_some 10 c.in-Some.behind.now) (sym c.in-Ok.is ∙ c.judge_line.ensures ∙ ap (λ (nums : ChildNumbers). judged (line_event nums c.lines.number c.in-Some.line.now)) c.numbers.ensures);
  counted = omega (arith, c.in-Some.ensures.1, c.lines.invariant.counted);
  few = omega (arith, c.in-Some.ensures.1, c.lines.invariant.few);
}

pub returns-in_err-end-in-Err-clause-judged : goal.returns-in_err-end-in-Err-clause-judged
returns-in_err-end-in-Err-clause-judged c =
    let p = err_from_is_err_and c.from_residual.result c.from_residual.ensures.1 in
    rw (p.1, p.2)
    (line_ended c.args.version c.lines.invariant.to.front c.lines.number c.lines.rest.now c.in-Some.line.now c.in-Some.behind.now (lines_events c.args.version c.args.first (parts 10 c.args.bytes.now))
    c.in-Some.ensures.0 c.lines.invariant.to.same c.in-Err.fault (Err c.in_err-end-in-Err.field-0.0) (is_fault _ c.in-Err.fault (sym c.in-Err.is ∙ c.judge_line.ensures ∙ ap (λ (nums : ChildNumbers). judged (line_event nums c.lines.number c.in-Some.line.now)) c.numbers.ensures)) (sym c.end.ensures ∙ c.in_err-end-in-Err.was))

pub returns-in-Err-clause-judged : goal.returns-in-Err-clause-judged
returns-in-Err-clause-judged c =
    judges c.args.version c.args.first c.args.bytes.now c.lines.rest.now c.lines.number c.lines.seen c.lines.invariant.to
    (line_ended c.args.version c.lines.invariant.to.front c.lines.number c.lines.rest.now c.in-Some.line.now c.in-Some.behind.now (lines_events c.args.version c.args.first (parts 10 c.args.bytes.now))
    c.in-Some.ensures.0 c.lines.invariant.to.same c.in-Err.fault (Ok tt) (is_fault _ c.in-Err.fault (sym c.in-Err.is ∙ c.judge_line.ensures ∙ ap (λ (nums : ChildNumbers). judged (line_event nums c.lines.number c.in-Some.line.now)) c.numbers.ensures)) (sym c.end.ensures ∙ c.in_ok-end-in-Err.was))

pub returns-clause-few : goal.returns-clause-few
returns-clause-few c = omega (arith, c.lines.invariant.few)
