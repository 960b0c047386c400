use Rattle.std.proofs.Common.{◌≡◌, List, drop}
use Rattle.expect_core.specs.declared.lanes.Lane.{Lane}
use Rattle.expect_core.specs.declared.own.Own.{Own}
use Rattle.expect_core.specs.Heard.{watched, Listened, tested}
use Rattle.expect_core.specs.Quiet.{AreQuietBut}
use Rattle.expect_core.specs.Sought.{AreSought}
use Rattle.expect_core.proofs.listen.test.Given as goal

abbrev pub invariant-sides : goal.invariant-sides
invariant-sides l =
    ((lanes : List Lane) (k : Own → Listened) → tested l.plan (drop l.at (watched l.plan)) lanes l.own k ≡ tested l.plan (watched l.plan) lanes l.initial.own k)
    × AreQuietBut l.changed l.at l.plan l.quiet l.own × AreSought l.plan l.sought l.own
