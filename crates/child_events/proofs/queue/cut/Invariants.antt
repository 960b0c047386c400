use Rattle.std.proofs.Common.{◌≡◌, ◌++◌, length}
use Rattle.child_events.specs.Queue.{echoes}
use Rattle.child_events.proofs.queue.cut.Given as goal

abbrev pub invariant-pieces : goal.invariant-pieces
invariant-pieces l = l.made.items ++ echoes l.clock l.rest ≡ echoes l.clock l.bytes

abbrev pub decreases-pieces : goal.decreases-pieces
decreases-pieces l = length l.rest
