use Rattle.std.proofs.Common.{◌≡◌}
use Rattle.expect_core.specs.Running.{run}
use Rattle.expect_core.proofs.dialogue.Dialogue.run_for.Given as goal

abbrev pub invariant-turns : goal.invariant-turns
invariant-turns l = run l.left l.turn l.vars l.self ≡ run l.initial.left l.initial.turn l.initial.vars l.initial.self

abbrev pub decreases-turns : goal.decreases-turns
decreases-turns l = l.left
