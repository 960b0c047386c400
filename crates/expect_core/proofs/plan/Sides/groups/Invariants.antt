use Rattle.std.proofs.Common.{◌≡◌, drop}
use Rattle.expect_core.specs.Heard.{groups_at}
use Rattle.expect_core.proofs.plan.Sides.groups.Given as goal

abbrev pub invariant-sides : goal.invariant-sides
invariant-sides l = groups_at l.i (drop l.child-index l.self) ≡ groups_at l.i l.self
