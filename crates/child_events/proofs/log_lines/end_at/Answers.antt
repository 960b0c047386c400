use Rattle.std.proofs.Common.{sym, ap, ◌∙◌}
use Rattle.std.specs.Prelude.{Result}
use Rattle.child_events.specs.declared.child_numbers.ChildNumbers.{ChildNumbers}
use Rattle.child_events.specs.declared.event.HallEvent.{HallEvent}
use Rattle.child_events.specs.declared.faults.LogFault.{LogFault}
use Rattle.child_events.specs.Reading.{parts, line_event, numbers_in, none_where, with_line}
use Rattle.child_events.specs.Judging.{judged}
use Rattle.child_events.proofs.Lines.{reads_exact}
use Rattle.child_events.proofs.Judged.{is_fault}
use Rattle.child_events.proofs.log_lines.end_at.Goals as goal

pub returns-in-Err : goal.returns-in-Err
returns-in-Err c = λ others.
    let fault = is_fault (line_event (numbers_in c.args.version) c.args.number c.args.line.now) c.in-Err.fault (sym c.in-Err.is ∙ c.judge_line.ensures ∙ ap (λ (nums : ChildNumbers). judged (line_event nums c.args.number c.args.line.now)) c.numbers.ensures) in
    reads_exact (none_where c.end.result) (with_line c.args.version c.args.number c.args.line.now (line_event (numbers_in c.args.version) c.args.number c.args.line.now) (parts 10 c.args.behind.now) others)
    (ap none_where c.end.ensures ∙ sym (ap (λ (r : Result HallEvent LogFault). with_line c.args.version c.args.number c.args.line.now r (parts 10 c.args.behind.now) others) fault))
