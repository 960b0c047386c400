use Rattle.std.proofs.Common.{◌≡◌}
use Rattle.feed_rings.specs.Ends.{taken_items, SameOut}
use Rattle.feed_rings.proofs.waiting.take_waiting.Given as goal

abbrev pub invariant-loop : goal.invariant-loop
invariant-loop g l = SameOut l.initial.out l.out × (taken_items l.out ≡ taken_items l.initial.out)
