use Rattle.course_texts.proofs.Coursing.{SoFar}
use Rattle.course_texts.proofs.explaining.courses.Given as goal

abbrev pub invariant-loop-script : goal.invariant-loop-script
invariant-loop-script l = SoFar l.secrets l.only l.events l.fn.scripts.items l.script-iterator.rest.items l.text l.number
