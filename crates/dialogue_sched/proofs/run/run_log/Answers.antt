use Rattle.std.proofs.Common.{◌≡◌, Err, sym, ap, subst, ◌∙◌}
use Rattle.std.specs.Prelude.{Result, List}
use Rattle.std.proofs.lemmas.Result.{err_from_is_err_and}
use Rattle.session.specs.declared.report.Report.{Report}
use Rattle.dialogue_sched.specs.declared.run.RunFault.TheVariants as run
use Rattle.dialogue_sched.specs.declared.run.LogRunFault.{LogRunFault}
use Rattle.dialogue_sched.specs.declared.run.LogRunFault.TheVariants.{Run}
use Rattle.dialogue_sched.specs.Run.{TakesLog}
use Rattle.dialogue_sched.proofs.Running.{whole_run}
use Rattle.dialogue_sched.proofs.Parting.{run_stopped, accepted_of}
use Rattle.dialogue_sched.proofs.run.run_log.Goals as goal

one_fault : (f g : LogRunFault) → ◌≡◌ {A = Result (List Report) LogRunFault} (Err f) (Err g) → f ≡ g
one_fault f g h = cc

pub returns-in_err-take_log-clause-runs : goal.returns-in_err-take_log-clause-runs
returns-in_err-take_log-clause-runs c =
    let p = err_from_is_err_and c.from_residual.result c.from_residual.ensures.1 in
    rw (p.1, p.2)
    (run_stopped c.args.scripts.items c.args.log.now.said c.in-Ok.hall c.take_log.new.hall c.in_err-take_log.field-0.0 c.in-Ok.ensures
    (subst (λ (r : Result (Unit {0}) LogRunFault). TakesLog c.args.log.now.said c.in-Ok.hall c.take_log.new.hall r) c.in_err-take_log.was c.take_log.ensures.takes))

pub returns-clause-runs : goal.returns-clause-runs
returns-clause-runs c =
    let t = c.in_ok-take_log.ensures.takes in
    (t.0, t.1, whole_run c.args.scripts.items t.0 c.in-Ok.hall c.take_log.new.hall c.into_reports.result c.in-Ok.ensures t.2 t.3 c.into_reports.ensures)

pub returns-in_err-take_log-clause-memory : goal.returns-in_err-take_log-clause-memory
returns-in_err-take_log-clause-memory c = λ is.
    let p = err_from_is_err_and c.from_residual.result c.from_residual.ensures.1 in
    let memory : p.0 ≡ Run run.Memory = one_fault p.0 (Run run.Memory) (sym p.1 ∙ is) in
    accepted_of c.args.scripts.items c.in-Ok.hall c.args.log.now.said c.take_log.new.log.said c.in-Ok.ensures (c.take_log.ensures.memory (c.in_err-take_log.was ∙ ap Err (sym p.2 ∙ memory)))
