use Rattle.std.proofs.Common.{◌≡◌}
use Rattle.feed_rings.specs.Ends.{put_items, SameIn}
use Rattle.child_hands.specs.Pumped.{PumpsSoFar}
use Rattle.child_hands.proofs.pump.put_pieces.Given as goal

abbrev pub invariant-loop : goal.invariant-loop
invariant-loop g l = record {
  ring : SameIn l.initial.feed l.feed;
  list : PumpsSoFar l.script l.child (g.R.Read.remaining l.initial.device.device) (g.R.Read.remaining l.device.device) (put_items l.initial.feed) (put_items l.feed);
  none_failed : l.device.failures ≡ 0;
  calls : l.device.calls ≡ l.counter;
}
