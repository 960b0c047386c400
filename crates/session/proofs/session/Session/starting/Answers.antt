use Rattle.std.proofs.Common.{ap, ◌∙◌}
use Rattle.expect_core.specs.declared.dialogue.Dialogue.{Dialogue}
use Rattle.expect_core.specs.Awaited.{starting}
use Rattle.session.proofs.Lefts.{has_started}
use Rattle.session.proofs.session.Session.starting.Goals as goal

pub returns-then-self-clause-says : goal.returns-then-self-clause-says
returns-then-self-clause-says c =
    rw (← c.self.view_is)
    (record { lives = λ lives. c.starting.ensures.value ∙ ap (λ (d : Dialogue). starting d.phase) c.state.ensures ∙ has_started c.self.inside c.self.invariant lives; spent = λ dead. cc })
