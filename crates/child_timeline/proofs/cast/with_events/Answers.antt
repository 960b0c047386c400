use Rattle.std.proofs.Common.{List, ℕ, sym, ap, ◌∙◌, arith}
use Rattle.child_events.specs.Reading.{parts}
use Rattle.tcl_words.specs.Bytes.{newline}
use Rattle.child_timeline.specs.Cast.{with_all}
use Rattle.child_timeline.proofs.Casts.{event_played, one_event, told_closed}
use Rattle.child_timeline.proofs.cast.with_events.Goals as goal

pub lines-preserved : goal.lines-preserved
lines-preserved c = record {
  same =
      sym (one_event c.lines.number c.args.on c.lines.reel c.in_ok-reel.reel c.in-Some.line.now (parts newline c.in-Some.behind.now) c.in_ok-reel.ensures)
      ∙ sym (ap (λ (ws : List (List ℕ)). with_all c.lines.number c.args.on c.lines.reel ws) c.in-Some.ensures.0)
      ∙ c.lines.invariant.same;
  played = event_played c.lines.number c.args.on c.lines.reel c.in_ok-reel.reel c.in-Some.line.now c.in_ok-reel.ensures c.lines.invariant.played;
  counted = omega (arith, c.in-Some.ensures.1, c.lines.invariant.counted);
}

pub close-requires : goal.close-requires
close-requires c = (event_played c.lines.number c.args.on c.lines.reel c.in_ok-reel-2.reel c.lines.rest.now c.in_ok-reel-2.ensures c.lines.invariant.played).kept.early

pub returns-clause-told : goal.returns-clause-told
returns-clause-told c = told_closed c.in_ok-reel-2.reel c.close.result c.close.ensures (event_played c.lines.number c.args.on c.lines.reel c.in_ok-reel-2.reel c.lines.rest.now c.in_ok-reel-2.ensures c.lines.invariant.played)
