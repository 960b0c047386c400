use Rattle.std.proofs.Common.{ap, ◌∙◌}
use Rattle.expect_core.specs.declared.dialogue.Dialogue.{Dialogue}
use Rattle.session.proofs.Lefts.{has_shown}
use Rattle.session.proofs.session.Session.transcript.Goals as goal

pub returns-then-self : goal.returns-then-self
returns-then-self c =
    rw (← c.self.view_is)
    (record { lives = λ lives. c.transcript.ensures ∙ ap (λ (d : Dialogue). d.own.transcript) c.state.ensures ∙ has_shown c.self.inside c.self.invariant lives; spent = λ dead. cc })
