use Rattle.std.proofs.Common.{◌≡◌, drop}
use Rattle.expect_core.specs.Deadlines.{soonest}
use Rattle.expect_core.specs.Heard.{heads}
use Rattle.expect_core.proofs.deadline.soonest.Given as goal

abbrev pub invariant-sides : goal.invariant-sides
invariant-sides l = soonest l.last (heads (drop l.child-index l.sides) l.lanes) ≡ soonest l.initial.last (heads l.sides l.lanes)
