use Rattle.report_texts.specs.Report.{labelled}
use Rattle.report_texts.specs.Line.{how_many, kind_label}
use Rattle.report_texts.proofs.Writing.{writes_as}
use Rattle.report_texts.proofs.Tallying.{same_labelled}
use Rattle.report_texts.proofs.tally.write_kind.Goals as goal

pub returns : goal.returns
returns g c =
    let k = c.args.kind in
    let es = c.args.endings.now in
    writes_as (Unit {0}) _ _ (labelled c.label.result.now c.how_many.result) (labelled (kind_label k) (how_many k es)) _ _ c.write_labelled.result
    (same_labelled c.label.result.now (kind_label k) c.how_many.result (how_many k es) c.label.ensures c.how_many.ensures) c.write_labelled.ensures
