use Rattle.feed_rings.specs.Ends.{LooksOn}
use Rattle.feed_rings.proofs.waiting.await_room.Given as goal

abbrev pub invariant-loop : goal.invariant-loop
invariant-loop g l = LooksOn l.initial.feed l.feed
