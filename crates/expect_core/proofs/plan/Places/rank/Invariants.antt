use Rattle.std.proofs.Common.{◌≡◌, ◌+◌, drop}
use Rattle.expect_core.specs.Sides.{rank_of}
use Rattle.expect_core.proofs.plan.Places.rank.Given as goal

abbrev pub invariant-places : goal.invariant-places
invariant-places l = l.at + rank_of l.i (drop l.at l.self) ≡ rank_of l.i l.self
