use Rattle.std.proofs.Common.{◌≡◌, ◌+◌, ◌++◌, length}
use Rattle.feed_rings.specs.Ends.{put_items, taken_items, seen_items, SameOut}
use Rattle.run_records.specs.Merged.{TakesOn}
use Rattle.run_records.proofs.reel.Reel.take_rest.Given as goal

abbrev pub invariant-loop : goal.invariant-loop
invariant-loop l = record {
  ring : SameOut l.fn.self.out l.self.out;
  takes : TakesOn l.fn.self l.self;
  left : taken_items l.self.out ++ seen_items l.self.out ≡ put_items l.fn.log;
  count : l.counter + length (seen_items l.self.out) ≡ l.count;
}
