use Rattle.run_records.specs.Merged.{SameRings, AllTakeOn}
use Rattle.run_records.proofs.Resting.{AllLookOn, TakenTo}
use Rattle.run_records.proofs.merger.take_rests.Given as goal

abbrev pub invariant-loop-at : goal.invariant-loop-at
invariant-loop-at l = record {
  rings : SameRings l.fn.reels l.reels;
  takes : AllTakeOn l.fn.reels l.reels;
  looks : AllLookOn l.fn.logs l.logs;
  taken : TakenTo l.at l.fn.logs l.reels;
}
