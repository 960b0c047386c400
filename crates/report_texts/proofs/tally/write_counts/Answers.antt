use Rattle.std.proofs.Common.{◌++◌, ◌∷◌, [], length, codes, Err}
use Rattle.report_texts.specs.Report.{labelled}
use Rattle.report_texts.specs.Line.{all_kinds, kinds_text}
use Rattle.report_texts.proofs.Writing.{writes_then, gives_up}
use Rattle.report_texts.proofs.tally.write_counts.Goals as goal

pub returns-in_default : goal.returns-in_default
returns-in_default g c =
    let es = c.args.endings.now in
    gives_up _ _ (labelled (codes "scripts=") (length es)) (kinds_text all_kinds es ++ 10 ∷ []) _ _ c.in_default.ensures

pub returns-in_default-write_kinds : goal.returns-in_default-write_kinds
returns-in_default-write_kinds g c =
    let es = c.args.endings.now in
    writes_then (Unit {0}) _ _ _ (labelled (codes "scripts=") (length es)) (kinds_text all_kinds es ++ 10 ∷ []) _ _ (Err c.in_default-write_kinds.field-0) c.in-Ok.ensures.0
    (gives_up _ _ (kinds_text all_kinds es) (10 ∷ []) _ _ c.in_default-write_kinds.ensures)

pub returns : goal.returns
returns g c =
    let es = c.args.endings.now in
    writes_then (Unit {0}) _ _ _ (labelled (codes "scripts=") (length es)) (kinds_text all_kinds es ++ 10 ∷ []) _ _ c.write_all.result c.in-Ok.ensures.0
    (writes_then (Unit {0}) _ _ _ (kinds_text all_kinds es) (10 ∷ []) _ _ c.write_all.result c.in-Ok-write_kinds.ensures.0 c.write_all.ensures)
