use Rattle.std.proofs.Common.{◌≡◌, length}
use Rattle.layer_tests.proofs.served.scripts.Given as goal

abbrev pub invariant-loop : goal.invariant-loop
invariant-loop l = length l.scripts.items ≡ l.counter
