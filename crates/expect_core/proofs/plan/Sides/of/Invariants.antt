use Rattle.std.proofs.Common.{◌≡◌, ◌++◌, drop, map}
use Rattle.expect_core.specs.Sides.{serving, sides_of}
use Rattle.expect_core.proofs.plan.Sides.of.Given as goal

abbrev pub invariant-places : goal.invariant-places
invariant-places l = l.sides-inside.list.items ++ map (λ i. (i, serving i 0 l.groups)) (drop l.i-index l.i-items) ≡ sides_of l.groups
