use Rattle.std.proofs.Common.{◌≡◌, subst, sym, ◌∙◌}
use Rattle.std.specs.Prelude.{IfOk}
use Rattle.script_runs.proofs.Writers.{still_put, unmade_put, failed_put}
use Rattle.script_runs.proofs.log_writer.LogWriter.put.Goals as goal

pub returns-then-is_some-clause-put : goal.returns-then-is_some-clause-put
returns-then-is_some-clause-put g c more made before text has = still_put g.L.Write.contents before text more c.args.self.now (sym c.is_some.ensures ∙ c.if-is_some.true) has

pub returns-in_default-clause-put : goal.returns-in_default-clause-put
returns-in_default-clause-put g c more made before text has = unmade_put g.L.Write.contents before text more c.args.self.now (sym c.is_some.ensures ∙ c.if-is_some.false) has

pub returns-then-is_err-clause-put : goal.returns-then-is_err-clause-put
returns-then-is_err-clause-put g c more made before text has =
    failed_put g.L.Write.contents before _ text more c.as_slice.result.now c.args.self.now _ _ c.write_all.result (sym c.is_some.ensures ∙ c.if-is_some.false)
    (c.as_slice.ensures ∙ subst (λ m. IfOk m (λ t. t ≡ more)) c.in-Ok.is made) (sym c.is_err.ensures.value ∙ c.if-is_err.true) c.write_all.ensures has
