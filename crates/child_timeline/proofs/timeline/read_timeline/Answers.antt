use Rattle.std.proofs.Common.{List, ℕ, sym, ap, ◌∙◌, arith}
use Rattle.child_events.specs.Reading.{parts}
use Rattle.tcl_words.specs.Bytes.{newline}
use Rattle.child_timeline.specs.Timeline.{with_lines}
use Rattle.child_timeline.proofs.Telling.{bytes_kept, one_line, told_at_end}
use Rattle.child_timeline.proofs.timeline.read_timeline.Goals as goal

pub lines-preserved : goal.lines-preserved
lines-preserved c = record {
  same =
      sym (one_line c.lines.number c.lines.timeline c.in_ok-timeline.timeline c.in-Some.line.now (parts newline c.in-Some.behind.now) c.in_ok-timeline.ensures)
      ∙ sym (ap (λ (ws : List (List ℕ)). with_lines c.lines.number c.lines.timeline ws) c.in-Some.ensures.0)
      ∙ c.lines.invariant.same;
  kept = bytes_kept c.lines.number c.lines.timeline c.in_ok-timeline.timeline c.in-Some.line.now c.in_ok-timeline.ensures c.lines.invariant.kept;
  counted = omega (arith, c.in-Some.ensures.1, c.lines.invariant.counted);
}

pub returns-clause-told : goal.returns-clause-told
returns-clause-told c = told_at_end c.lines.number c.lines.timeline c.lines.rest.now c.with_bytes-2.result c.with_bytes-2.ensures c.lines.invariant.kept
