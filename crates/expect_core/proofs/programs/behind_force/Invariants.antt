use Rattle.std.proofs.Common.{◌≡◌, ◌≤◌, drop, length}
use Rattle.expect_core.specs.Programs.{behind_force}
use Rattle.expect_core.proofs.programs.behind_force.Given as goal

abbrev pub invariant-flags : goal.invariant-flags
invariant-flags l = (behind_force (drop l.at l.args) ≡ behind_force l.args) × (l.at ≤ length l.args)
