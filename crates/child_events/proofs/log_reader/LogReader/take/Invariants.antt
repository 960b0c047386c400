use Rattle.std.proofs.Common.{◌≡◌, take, drop}
use Rattle.child_events.proofs.log_reader.LogReader.take.Given as goal

abbrev pub invariant-loop : goal.invariant-loop
invariant-loop l = record {
  given : l.events ≡ take l.counter l.fn.self;
  left : l.reader ≡ drop l.counter l.fn.self;
}
