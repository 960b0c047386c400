use Rattle.std.proofs.Common.{◌≡◌, ℕ, List, length, sym, ap, subst, ◌∙◌, None, arith}
use Rattle.child_events.specs.declared.event.HallEvent.{HallEvent}
use Rattle.dialogue_sched.specs.Took.{AllTook}
use Rattle.dialogue_sched.specs.Refusal.{first_refusal}
use Rattle.dialogue_sched.proofs.Running.{as_many, whole_run}
use Rattle.dialogue_sched.proofs.run.run_all.Goals as goal

pub returns-clause-runs : goal.returns-clause-runs
returns-clause-runs c =
    let hall = c.in_ok-hall.hall in
    let many : length c.args.scripts.items ≡ c.len.result = omega (arith, c.len.ensures, c.args.scripts.ok.0) in
    let none : first_refusal (length c.args.scripts.items) 0 c.args.events.now ≡ None =
    ap (λ (n : ℕ). first_refusal n 0 c.args.events.now) many ∙ sym c.first_refused.ensures ∙ c.in_default-first_refused.is in
    whole_run c.args.scripts.items c.args.events.now hall c.take_all.new.self c.into_reports.result c.in_ok-hall.ensures
    (sym (as_many c.args.scripts.items c.args.events.now hall c.in_ok-hall.ensures) ∙ none)
    (subst (λ (es : List HallEvent). AllTook 1 es hall c.take_all.new.self) c.in_ok-copies.ensures c.in-Ok.ensures.took) c.into_reports.ensures
