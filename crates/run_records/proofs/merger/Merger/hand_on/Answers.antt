use Rattle.run_records.proofs.Handing.{handed_more}
use Rattle.run_records.proofs.merger.Merger.hand_on.Goals as goal

pub returns-clause-handed : goal.returns-clause-handed
returns-clause-handed g c first h = handed_more g.R.Recorder.notes first c.args.self.now.recorder c.note.new.self _ h c.note.ensures
