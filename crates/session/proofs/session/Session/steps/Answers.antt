use Rattle.std.proofs.Common.{ℕ, ◌-◌, ap, ◌∙◌}
use Rattle.session.proofs.Lefts.{has_begun}
use Rattle.session.proofs.session.Session.steps.Goals as goal

pub returns-then-self : goal.returns-then-self
returns-then-self c =
    let gone = ap (λ (left : ℕ). c.self.inside.bound - left) c.left.ensures in
    rw (← c.self.view_is)
    (record { lives = λ lives. c.saturating_sub.ensures ∙ gone ∙ has_begun c.self.inside c.self.invariant lives; spent = λ dead. cc })
