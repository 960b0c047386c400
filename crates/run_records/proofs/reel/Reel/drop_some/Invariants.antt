use Rattle.feed_rings.specs.Ends.{SameOut}
use Rattle.run_records.proofs.reel.Reel.drop_some.Given as goal

abbrev pub invariant-loop-turn : goal.invariant-loop-turn
invariant-loop-turn l = SameOut l.fn.self.out l.self.out
