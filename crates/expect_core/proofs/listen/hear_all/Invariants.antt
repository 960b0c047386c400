use Rattle.std.proofs.Common.{◌≡◌}
use Rattle.expect_core.specs.Heard.{listen, item_count}
use Rattle.expect_core.specs.Known.{Knows}
use Rattle.expect_core.proofs.listen.hear_all.Given as goal

abbrev pub invariant-turns : goal.invariant-turns
invariant-turns l =
    (listen l.times.limit l.times.horizon l.plan l.lanes l.own ≡ listen l.times.limit l.times.horizon l.plan l.initial.lanes l.initial.own)
    × Knows l.plan l.known l.own

abbrev pub decreases-turns : goal.decreases-turns
decreases-turns l = item_count l.lanes
