use Rattle.std.proofs.Common.{◌≡◌, ◌++◌, ◌∙◌, Err}
use Rattle.std.specs.Fmt.{decimal}
use Rattle.report_texts.specs.Report.{labelled}
use Rattle.report_texts.proofs.Writing.{writes_as, writes_then, gives_up}
use Rattle.report_texts.proofs.Tallying.{is_labelled}
use Rattle.report_texts.proofs.tally.write_labelled.Goals as goal

pub returns-in_default : goal.returns-in_default
returns-in_default g c =
    let label = c.args.label.now in
    let number = c.args.number in
    writes_as (Unit {0}) _ _ (label ++ decimal number) (labelled label number) _ _ (Err c.in_default.field-0) (is_labelled label number)
    (gives_up _ _ label (decimal number) _ _ c.in_default.ensures)

pub returns : goal.returns
returns g c =
    let label = c.args.label.now in
    let number = c.args.number in
    let digits : c.as_bytes.result.now ≡ decimal number = c.as_bytes.ensures.value ∙ c.format.ensures.text in
    writes_as (Unit {0}) _ _ (label ++ decimal number) (labelled label number) _ _ c.write_all-2.result (is_labelled label number)
    (writes_then (Unit {0}) _ _ _ label (decimal number) _ _ c.write_all-2.result c.in-Ok.ensures.0
    (writes_as (Unit {0}) _ _ c.as_bytes.result.now (decimal number) _ _ c.write_all-2.result digits c.write_all-2.ensures))
