use Rattle.std.proofs.Common.{◌≡◌, ◌++◌, drop}
use Rattle.dialogue_sched.proofs.run.copies.Given as goal

abbrev pub invariant-loop-event : goal.invariant-loop-event
invariant-loop-event l = l.list ++ drop l.event-index l.events ≡ l.events
