use Rattle.std.proofs.Common.{◌≡◌, replicate}
use Rattle.expect_core.specs.Lanes.{no_lane}
use Rattle.expect_core.proofs.lanes.Lanes.new.Given as goal

abbrev pub invariant-loop : goal.invariant-loop
invariant-loop l = l.list.items ≡ replicate l.counter no_lane
