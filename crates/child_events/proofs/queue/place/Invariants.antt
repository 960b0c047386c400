use Rattle.std.proofs.Common.{◌≤◌, length}
use Rattle.child_events.specs.Queue.{place}
use Rattle.child_events.proofs.queue.place.Given as goal

abbrev pub invariant-later : goal.invariant-later
invariant-later l = record {
  within : l.at ≤ length l.slots.items;
  found : place l.clock l.slots.items ≤ l.at;
}

abbrev pub decreases-later : goal.decreases-later
decreases-later l = l.at
