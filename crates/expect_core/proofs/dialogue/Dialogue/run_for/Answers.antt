use Rattle.std.proofs.Common.{◌≡◌, suc, ◌-◌, sym, ap, ◌∙◌, rules}
use Rattle.tcl_host.specs.declared.host.HostStep.{HostStep}
use Rattle.expect_core.specs.declared.run.Went.{Went}
use Rattle.expect_core.specs.Answered.{Outcome}
use Rattle.expect_core.specs.Going.{goes}
use Rattle.expect_core.specs.Running.{run}
use Rattle.expect_core.proofs.Pausing.{turn_is}
use Rattle.expect_core.proofs.dialogue.Dialogue.run_for.Goals as goal

pub returns-in-Listens-clause-runs : goal.returns-in-Listens-clause-runs
returns-in-Listens-clause-runs c =
    let n = c.turns.left - 1 in
    let more : c.turns.left ≡ suc n = search rules in
    let came = c.in_ok-step.ensures.goes (run n) in
    sym c.turns.invariant
    ∙ turn_is c.turns.left n c.turns.turn c.turns.vars c.turns.self more
    ∙ came
    ∙ ap (λ (r : Went). goes r (run n) c.turned.new.vars c.turned.new.self) c.in-Listens.is
    ∙ ap (λ (s : HostStep). let o : Outcome = (s, c.turned.new.vars, c.turned.new.self) in o) (sym c.listening.ensures.step)
