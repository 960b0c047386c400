use Rattle.std.proofs.Common.{refl}
use Rattle.run_records.proofs.Handing.{merged_first}
use Rattle.run_records.proofs.merger.Merger.new.Goals as goal

pub returns-clause-merging : goal.returns-clause-merging
returns-clause-merging g c keeps lost = merged_first g.R.Recorder.notes c.args.recorder _ c.requires refl
