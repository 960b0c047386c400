use Rattle.std.proofs.Common.{◌≡◌, ◌+◌, length}
use Rattle.run_records.proofs.Parting.{MovesTo}
use Rattle.run_records.proofs.reel.Reel.move_before.Given as goal

abbrev pub invariant-loop : goal.invariant-loop
invariant-loop l = record {
  moves : MovesTo l.bound l.index.workers l.index.worker l.fn.self l.fn.all l.self l.all;
  count : l.counter + length l.self.held.items ≡ length l.fn.self.held.items;
}
