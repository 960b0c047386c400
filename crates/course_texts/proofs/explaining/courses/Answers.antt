use Rattle.std.proofs.Common.{◌+◌, rules, refl}
use Rattle.course_texts.proofs.Coursing.{none_yet, told_more, silent_more, tells_not}
use Rattle.course_texts.proofs.explaining.courses.Goals as goal

pub loop-script-init : goal.loop-script-init
loop-script-init c =
    rw (c.new-text.ensures)
    (none_yet c.args.secrets.now c.args.only c.args.events.now c.args.scripts.items c.into_iter-script-iterator.result.rest.items (search rules))

pub loop-script-preserved-in-Ok : goal.loop-script-preserved-in-Ok
loop-script-preserved-in-Ok c =
    told_more c.args.secrets.now c.args.only c.args.events.now c.args.scripts.items c.loop-script.script-iterator.rest.items c.loop-script.text c.loop-script.number c.loop-script.invariant
    c.in-Some.script c.next.new.self.rest.items c.in-Some.ensures.steps.0 (c.loop-script.number + 1) c.in-Ok.told c.extend.new.self refl (search rules) c.in-Ok.ensures (search rules)

pub returns-in-Err : goal.returns-in-Err
returns-in-Err c =
    tells_not c.args.secrets.now c.args.only c.args.events.now c.args.scripts.items c.loop-script.script-iterator.rest.items c.loop-script.text c.loop-script.number c.loop-script.invariant
    c.in-Some.script c.next.new.self.rest.items c.in-Some.ensures.steps.0 (c.loop-script.number + 1) c.in-Err.fault refl c.in-Err.ensures

pub loop-script-preserved : goal.loop-script-preserved
loop-script-preserved c =
    silent_more c.args.secrets.now c.args.only c.args.events.now c.args.scripts.items c.loop-script.script-iterator.rest.items c.loop-script.text c.loop-script.number c.loop-script.invariant
    c.in-Some.script c.next.new.self.rest.items c.in-Some.ensures.steps.0 (c.loop-script.number + 1) refl (search rules)
