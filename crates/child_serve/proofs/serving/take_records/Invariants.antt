use Rattle.std.proofs.Common.{◌≡◌, false}
use Rattle.run_records.specs.Merged.{SameRings, IsMerging, WasHanded}
use Rattle.child_serve.proofs.serving.take_records.Given as goal

abbrev pub invariant-loop : goal.invariant-loop
invariant-loop g l = record {
  rings : SameRings l.fn.merger.reels.items l.merger.reels.items;
  keeps : l.merger.keeps ≡ l.fn.merger.keeps;
  merging : (first : _) → IsMerging g.R.Recorder.notes first l.fn.merger → IsMerging g.R.Recorder.notes first l.merger;
  handed : (first : _) → WasHanded g.R.Recorder.notes first l.fn.merger.recorder → WasHanded g.R.Recorder.notes first l.merger.recorder;
  unkept : l.fn.merger.keeps ≡ false → l.merger.recorder ≡ l.fn.merger.recorder;
}
