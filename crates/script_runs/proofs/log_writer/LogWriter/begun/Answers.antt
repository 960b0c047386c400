use Rattle.std.proofs.Common.{sym, ap, subst, ◌∙◌}
use Rattle.child_events.specs.declared.child_numbers.ChildNumbers.TheVariants.{To16}
use Rattle.child_events.specs.Log.{heading}
use Rattle.script_runs.specs.Logging.{HasPut, if_kept}
use Rattle.script_runs.proofs.Writers.{first_put}
use Rattle.script_runs.proofs.log_writer.LogWriter.begun.Goals as goal

pub returns-then-recorded-clause-put : goal.returns-then-recorded-clause-put
returns-then-recorded-clause-put g c =
    let w = c.new-writer.result in
    let log = c.new-writer.ensures.log in
    subst (λ d. HasPut g.L.Write.contents (g.L.Write.contents d) (if_kept c.args.recorded (heading To16)) c.begin.new.self) (ap (λ l. l.device) log)
    (subst (λ b. HasPut g.L.Write.contents (g.L.Write.contents w.log.device) (if_kept b (heading To16)) c.begin.new.self) (sym c.if-recorded.true)
    (c.begin.ensures.put (g.L.Write.contents w.log.device) _ (first_put g.L.Write.contents w c.new-writer.ensures.fault (ap (λ l. l.failures) log ∙ c.requires.failures) (ap (λ l. l.calls) log ∙ c.requires.calls))))
