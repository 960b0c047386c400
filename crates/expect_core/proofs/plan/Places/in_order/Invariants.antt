use Rattle.std.proofs.Common.{◌≡◌, [], drop}
use Rattle.expect_core.specs.Sides.{with_places}
use Rattle.expect_core.proofs.plan.Places.in_order.Given as goal

abbrev pub invariant-places : goal.invariant-places
invariant-places l = with_places (drop l.i-index l.self) l.ordered ≡ with_places l.self []
