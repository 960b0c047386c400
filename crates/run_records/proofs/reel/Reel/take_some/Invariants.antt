use Rattle.feed_rings.specs.Ends.{SameOut}
use Rattle.run_records.specs.Merged.{TakesOn}
use Rattle.run_records.proofs.reel.Reel.take_some.Given as goal

abbrev pub invariant-loop-turn : goal.invariant-loop-turn
invariant-loop-turn l = record {
  ring : SameOut l.fn.self.out l.self.out;
  takes : TakesOn l.fn.self l.self;
}
