use Rattle.std.proofs.Common.{◌≡◌, length}
use Rattle.layer_tests.proofs.keeper.liners.Given as goal

abbrev pub invariant-loop : goal.invariant-loop
invariant-loop l = length l.keepers.items ≡ l.counter
