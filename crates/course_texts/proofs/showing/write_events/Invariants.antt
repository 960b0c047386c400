use Rattle.std.proofs.Common.{◌≡◌, ◌≤◌, ◌++◌, List, length}
use Rattle.std.specs.Io.KnownBytes.{Appends}
use Rattle.child_events.specs.declared.event.HallEvent.{HallEvent}
use Rattle.course_texts.specs.Show.{shown_log}
use Rattle.course_texts.proofs.showing.write_events.Given as goal

-- what was shown so far, and what is left
abbrev pub invariant-parts : goal.invariant-parts
invariant-parts g l = record {
  shown : List HallEvent;
  all : shown ++ l.log ≡ l.fn.log;
  put : Appends (g.W.Write.contents l.initial.out.device) (g.W.Write.contents l.out.device) (shown_log l.script shown);
  failures : l.out.failures ≡ 0;
  calls : l.out.calls ≤ 1099511627776;
}

abbrev pub decreases-parts : goal.decreases-parts
decreases-parts g l = length l.log
