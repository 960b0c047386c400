use Rattle.std.proofs.Common.{ap, ◌∙◌}
use Rattle.expect_core.specs.declared.dialogue.Dialogue.{Dialogue}
use Rattle.session.proofs.Lefts.{has_asked}
use Rattle.session.proofs.session.Session.requests.Goals as goal

pub returns-then-self : goal.returns-then-self
returns-then-self c =
    rw (← c.self.view_is)
    (record { lives = λ lives. c.requests.ensures ∙ ap (λ (d : Dialogue). d.own.requests) c.state.ensures ∙ has_asked c.self.inside c.self.invariant lives; spent = λ dead. cc })
