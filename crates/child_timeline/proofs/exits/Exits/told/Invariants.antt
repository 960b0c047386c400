use Rattle.std.proofs.Common.{◌≡◌, drop}
use Rattle.child_timeline.specs.Exits.{exit_told}
use Rattle.child_timeline.proofs.exits.Exits.told.Given as goal

abbrev pub invariant-loop-exit : goal.invariant-loop-exit
invariant-loop-exit l = exit_told l.child (drop l.exit-index l.self) ≡ exit_told l.child l.self
