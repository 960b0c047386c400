use Rattle.std.proofs.Common.{◌≡◌, ◌++◌, take}
use Rattle.std.specs.List.{AllByRecursion}
use Rattle.child_events.specs.Log.{lines_text, IsOfBytes}
use Rattle.child_events.proofs.writing.push_lines.Given as goal

abbrev pub invariant-events : goal.invariant-events
invariant-events l = record {
  text : l.text ≡ l.initial.text ++ lines_text (take l.event-index l.events);
  bytes : AllByRecursion IsOfBytes (take l.event-index l.events);
}
