use Rattle.std.proofs.Common.{[], rules}
use Rattle.course_texts.specs.Explain.{at_first}
use Rattle.course_texts.proofs.Coursing.{one_more}
use Rattle.course_texts.proofs.explaining.push_course.Goals as goal

pub loop-event-init : goal.loop-event-init
loop-event-init c = ([], at_first, search rules)

pub loop-event-preserved : goal.loop-event-preserved
loop-event-preserved c =
    one_more c.args.secrets.now c.args.number c.args.session.now c.loop-event.session c.step.new.session c.args.events.now c.loop-event.event-index _ c.args.text.now c.loop-event.text c.step.new.text
    (search rules) (search rules) c.in_ok-step.ensures c.loop-event.invariant
