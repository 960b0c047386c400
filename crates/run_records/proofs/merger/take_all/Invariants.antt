use Rattle.run_records.specs.Merged.{SameRings, AllTakeOn}
use Rattle.run_records.proofs.merger.take_all.Given as goal

abbrev pub invariant-loop-at : goal.invariant-loop-at
invariant-loop-at l = record {
  rings : SameRings l.fn.reels l.reels;
  takes : AllTakeOn l.fn.reels l.reels;
}
