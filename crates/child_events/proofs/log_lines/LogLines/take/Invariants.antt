use Rattle.std.proofs.Common.{◌≡◌, length}
use Rattle.child_events.specs.Judging.{GivesPart}
use Rattle.child_events.proofs.log_lines.LogLines.take.Given as goal

abbrev pub invariant-loop : goal.invariant-loop
invariant-loop l = record {
  given : GivesPart l.fn.self l.events l.lines;
  many : length l.events ≡ l.counter;
}
