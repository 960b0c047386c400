use Rattle.run_records.specs.Merged.{SameRings}
use Rattle.run_records.proofs.merger.drop_all.Given as goal

abbrev pub invariant-loop-at : goal.invariant-loop-at
invariant-loop-at l = SameRings l.fn.reels l.reels
