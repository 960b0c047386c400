use Rattle.std.proofs.Common.{List, subst}
use Rattle.secret_words.specs.declared.secrets.Secret.{Secret}
use Rattle.report_texts.specs.Masked.{AllMasked}
use Rattle.script_runs.proofs.Standing.{keeps_as, replayed, part_replayed}
use Rattle.script_runs.proofs.replaying.replay.Goals as goal

pub returns-in-Ok-clause-answers : goal.returns-in-Ok-clause-answers
returns-in-Ok-clause-answers g c =
    let shown = c.masked_reports-shown.result in
    let masks = subst (λ (ss : List Secret). AllMasked ss c.in_ok-reports.reports shown) c.as_slice.ensures c.masked_reports-shown.ensures.masked in
    let keeps = keeps_as c.as_slice-2.result.now shown _ _ c.as_slice-2.ensures.value c.keep_all.ensures in
    replayed c.args.scripts.items c.args.form.now _ c.as_slice-3.result.now shown c.in_ok-reports.reports _ _ _ _ _ _ c.as_slice-3.ensures.value masks keeps
    c.in-Ok.well c.in_ok-reports.ensures.read c.in-Ok.ensures

pub returns-clause-answers : goal.returns-clause-answers
returns-clause-answers g c =
    let shown = c.masked_reports-shown.result in
    let masks = subst (λ (ss : List Secret). AllMasked ss c.in_ok-reports.reports shown) c.as_slice.ensures c.masked_reports-shown.ensures.masked in
    let keeps = keeps_as c.as_slice-2.result.now shown _ _ c.as_slice-2.ensures.value c.keep_all.ensures in
    part_replayed c.args.scripts.items c.args.form.now _ c.as_slice-3.result.now shown c.in_ok-reports.reports _ _ _ _ _ _ c.as_slice-3.ensures.value masks keeps
    c.in-Err.field-0 c.in_ok-reports.ensures.read c.in-Err.ensures
