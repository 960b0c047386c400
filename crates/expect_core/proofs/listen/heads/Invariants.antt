use Rattle.std.proofs.Common.{◌≡◌, ◌++◌, drop}
use Rattle.expect_core.specs.Heard.{heads}
use Rattle.expect_core.proofs.listen.heads.Given as goal

abbrev pub invariant-sides : goal.invariant-sides
invariant-sides l = l.list.items ++ heads (drop l.child-index l.sides) l.lanes ≡ heads l.sides l.lanes
