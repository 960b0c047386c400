use Rattle.std.proofs.Common.{◌≡◌, take}
use Rattle.expect_core.proofs.settings.Pairs.copied.Given as goal

abbrev pub invariant-loop-pair : goal.invariant-loop-pair
invariant-loop-pair l = l.made ≡ take l.pair-index l.self
