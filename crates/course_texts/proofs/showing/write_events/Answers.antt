use Rattle.std.proofs.Common.{◌≡◌, ◌-◌, ◌<◌, ◌++◌, List, length, take, length-drop, ap, ◌∙◌, arith, rules}
use Rattle.child_events.specs.declared.event.HallEvent.{HallEvent}
use Rattle.course_texts.specs.Show.{shown_log}
use Rattle.course_texts.proofs.LogLines.{stopped_between, stopped_within, shown_more, still_all}
use Rattle.course_texts.proofs.showing.write_events.Goals as goal

pub returns-in_default : goal.returns-in_default
returns-in_default g c =
    let i = c.parts.invariant in
    (stopped_between c.args.script c.args.log.now i.shown c.parts.log i.all _ _ i.put, i.failures)

pub returns-in_default-write_all : goal.returns-in_default-write_all
returns-in_default-write_all g c =
    let i = c.parts.invariant in
    let part : c.as_slice.result.now ≡ shown_log c.args.script (take 256 c.parts.log) = search rules in
    stopped_within c.args.script c.args.log.now i.shown c.parts.log i.all _ _ i.put 256 _ part _ _ _ c.in_default-write_all.field-0 c.in_default-write_all.ensures

pub parts-smaller : goal.parts-smaller
parts-smaller g c =
    let left : length c.part_text.new.log ≡ length c.parts.log - 256 = ap (λ (es : List HallEvent). length es) c.in-Ok.ensures.left ∙ length-drop 256 c.parts.log in
    let less : length c.part_text.new.log < length c.parts.log = omega (arith, left, c.parts-test.true, c.len.ensures) in
    less

pub parts-preserved : goal.parts-preserved
parts-preserved g c =
    let i = c.parts.invariant in
    let part : c.as_slice.result.now ≡ shown_log c.args.script (take 256 c.parts.log) = search rules in
    record {
      shown = i.shown ++ take 256 c.parts.log;
      all = still_all c.args.script c.args.log.now i.shown c.parts.log i.all _ _ i.put 256 _ part (g.W.Write.contents c.write_all.new.writer.device) c.part_text.new.log c.in-Ok.ensures.left;
      put = shown_more c.args.script c.args.log.now i.shown c.parts.log i.all _ _ i.put 256 _ part _ c.in-Ok-write_all.ensures.0;
      failures = c.in-Ok-write_all.ensures.1;
      calls = c.in-Ok-write_all.ensures.2;
    }
