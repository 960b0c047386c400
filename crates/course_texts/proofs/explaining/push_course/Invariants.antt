use Rattle.std.proofs.Common.{take}
use Rattle.course_texts.specs.Explain.{TellsBehind}
use Rattle.course_texts.proofs.explaining.push_course.Given as goal

abbrev pub invariant-loop-event : goal.invariant-loop-event
invariant-loop-event l = TellsBehind l.secrets l.number l.initial.session (take l.event-index l.events) l.initial.text l.session l.text
