use Rattle.std.proofs.Common.{◌≡◌, ◌++◌, drop}
use Rattle.expect_core.specs.Sides.{serving}
use Rattle.expect_core.proofs.served.ServedGroups.serving.Given as goal

abbrev pub invariant-groups : goal.invariant-groups
invariant-groups l = l.groups ++ serving l.i l.at (drop l.at l.self) ≡ serving l.i 0 l.self
