use Rattle.std.proofs.Common.{List, ℕ, sym, ap, ◌∙◌, arith}
use Rattle.child_events.specs.Reading.{parts}
use Rattle.tcl_words.specs.Bytes.{newline}
use Rattle.child_timeline.specs.Typescript.{with_timings}
use Rattle.child_timeline.proofs.Taping.{timing_wound, one_timing, told_wound_up}
use Rattle.child_timeline.proofs.typescript.timed_by.Goals as goal

pub lines-preserved : goal.lines-preserved
lines-preserved c = record {
  same =
      sym (one_timing c.lines.number c.args.body.now c.lines.tape c.in_ok-tape.tape c.in-Some.line.now (parts newline c.in-Some.behind.now) c.in_ok-tape.ensures)
      ∙ sym (ap (λ (ws : List (List ℕ)). with_timings c.lines.number c.args.body.now c.lines.tape ws) c.in-Some.ensures.0)
      ∙ c.lines.invariant.same;
  wound = timing_wound c.lines.number c.args.body.now c.lines.tape c.in_ok-tape.tape c.in-Some.line.now c.in_ok-tape.ensures c.lines.invariant.wound;
  counted = omega (arith, c.in-Some.ensures.1, c.lines.invariant.counted);
}

pub wind_up-requires-clause-early : goal.wind_up-requires-clause-early
wind_up-requires-clause-early c = (timing_wound c.lines.number c.args.body.now c.lines.tape c.in_ok-tape-2.tape c.lines.rest.now c.in_ok-tape-2.ensures c.lines.invariant.wound).kept.early

pub wind_up-requires-clause-at : goal.wind_up-requires-clause-at
wind_up-requires-clause-at c = (timing_wound c.lines.number c.args.body.now c.lines.tape c.in_ok-tape-2.tape c.lines.rest.now c.in_ok-tape-2.ensures c.lines.invariant.wound).at

pub returns-clause-told : goal.returns-clause-told
returns-clause-told c = told_wound_up c.args.body.now c.in_ok-tape-2.tape c.wind_up.result c.wind_up.ensures (timing_wound c.lines.number c.args.body.now c.lines.tape c.in_ok-tape-2.tape c.lines.rest.now c.in_ok-tape-2.ensures c.lines.invariant.wound).kept
