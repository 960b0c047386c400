use Rattle.run_records.specs.Merged.{SameRings}
use Rattle.run_records.proofs.Moving.{MergedTo}
use Rattle.run_records.proofs.merger.merged_before.Given as goal

abbrev pub invariant-loop-worker : goal.invariant-loop-worker
invariant-loop-worker l = record {
  rings : SameRings l.fn.reels l.reels;
  merged : MergedTo l.bound l.workers l.worker l.fn.reels l.reels l.all;
}
