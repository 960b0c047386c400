use Rattle.std.proofs.Common.{◌≡◌, ◌++◌, drop}
use Rattle.course_texts.specs.Waits.{own_lines}
use Rattle.course_texts.proofs.waits.push_entries.Given as goal

abbrev pub invariant-loop-entry : goal.invariant-loop-entry
invariant-loop-entry l = l.text ++ own_lines l.secrets l.bytes l.groups (drop l.entry-index l.entries) ≡ l.initial.text ++ own_lines l.secrets l.bytes l.groups l.entries
