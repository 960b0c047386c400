use Rattle.std.proofs.Common.{◌≡◌, ◌++◌, drop}
use Rattle.course_texts.specs.Meetings.{group_lines}
use Rattle.course_texts.proofs.meetings.push_groups.Given as goal

abbrev pub invariant-loop-digit : goal.invariant-loop-digit
invariant-loop-digit l = l.text ++ group_lines l.secrets l.indices l.vars (drop l.digit-index l.digits) ≡ l.initial.text ++ group_lines l.secrets l.indices l.vars l.digits
