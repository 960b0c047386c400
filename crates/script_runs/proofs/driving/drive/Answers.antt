use Rattle.std.proofs.Common.{List, length, map, subst}
use Rattle.secret_words.specs.declared.secrets.Secret.{Secret}
use Rattle.report_texts.specs.Masked.{AllMasked}
use Rattle.child_serve.specs.Whole.{keeping_of}
use Rattle.script_runs.specs.Drive.{Logs}
use Rattle.script_runs.proofs.Standing.{keeps_as}
use Rattle.script_runs.proofs.Drives.{writes_as, unwritten}
use Rattle.script_runs.proofs.driving.drive.Goals as goal

pub returns-in-Err-clause-answers : goal.returns-in-Err-clause-answers
returns-in-Err-clause-answers g c = unwritten g.K.Keeper.told g.K.Keeper.gives c.args.recorded (length c.args.clocks.items) (map (keeping_of g.K.Keeper.named g.K.Keeper.made) c.args.keepers.items) c.args.scripts.items (g.L.Write.contents c.args.log.device)

pub returns-clause-answers : goal.returns-clause-answers
returns-clause-answers g c =
    let served = c.in-Ok-outcome.served.0 in
    let shown = c.masked_reports-shown.result in
    record {
      served = served;
      logged = subst (λ r. Logs g.K.Keeper.told g.K.Keeper.gives c.args.recorded (length c.args.clocks.items) (map (keeping_of g.K.Keeper.named g.K.Keeper.made) c.args.keepers.items) c.args.scripts.items (g.L.Write.contents c.args.log.device) (g.L.Write.contents c.serve_and_log-outcome.result.1.device) c.serve_and_log-outcome.result.1.failures c.serve_and_log-outcome.result.1.calls r) c.in-Ok-outcome.is c.serve_and_log-outcome.ensures;
      shown = shown;
      masks = subst (λ (ss : List Secret). AllMasked ss served.reports shown) c.as_slice.ensures c.masked_reports-shown.ensures.masked;
      keeps = keeps_as c.as_slice-2.result.now shown (g.S.Shelf.handed c.args.shelf.now) (g.S.Shelf.handed c.keep_all.new.shelf) c.as_slice-2.ensures.value c.keep_all.ensures;
      reported = writes_as c.args.form.now c.as_slice-3.result.now shown (g.O.Write.contents c.args.out.now.device) (g.O.Write.contents c.write_reports.new.out.device) c.write_reports.new.out.failures c.write_reports.new.out.calls c.write_reports.result c.as_slice-3.ensures.value c.write_reports.ensures;
    }
