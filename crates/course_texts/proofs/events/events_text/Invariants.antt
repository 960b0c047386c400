use Rattle.std.proofs.Common.{◌≡◌, ◌++◌, drop}
use Rattle.course_texts.specs.Show.{shown_log}
use Rattle.course_texts.proofs.events.events_text.Given as goal

abbrev pub invariant-loop-event : goal.invariant-loop-event
invariant-loop-event l = l.text ++ shown_log l.script (drop l.event-index l.events) ≡ l.initial.text ++ shown_log l.script l.events
