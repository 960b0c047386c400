use Rattle.std.proofs.Common.{◌≡◌, length}
use Rattle.layer_tests.proofs.served.stopped.Given as goal

abbrev pub invariant-loop : goal.invariant-loop
invariant-loop l = length l.clocks.items ≡ l.counter
