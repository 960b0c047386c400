use Rattle.std.proofs.Common.{◌≡◌, ◌∙◌, sym, subst}
use Rattle.run_records.specs.Merged.{WasHanded}
use Rattle.run_records.proofs.merger.Merger.finish.Goals as goal

pub returns-clause-handed : goal.returns-clause-handed
returns-clause-handed g c first h = subst (WasHanded g.R.Recorder.notes first) (sym c.into_recorder.ensures) (c.hand_rest-outcome.ensures.handed first h)
