use Rattle.std.proofs.Common.{take}
use Rattle.child_serve.specs.Teams.{AreFirst}
use Rattle.child_serve.proofs.worker.lines_of.Given as goal

abbrev pub invariant-loop-keeper : goal.invariant-loop-keeper
invariant-loop-keeper g l = AreFirst g.K.Keeper.named g.K.Keeper.made (take l.keeper-index l.keepers) l.lines.items
