use Rattle.std.proofs.Common.{◌≤◌, length, arith, ap, ◌∙◌}
use Rattle.expect_core.specs.declared.dialogue.Dialogue.{Dialogue}
use Rattle.session.proofs.Lefts.{hands_past, hands_none, hands_some, none_in}
use Rattle.session.proofs.session.Session.next_request.Goals as goal

pub returns-then-self-requests : goal.returns-then-self-requests
returns-then-self-requests c =
    let over : length c.self.inside.dialogue.own.requests ≤ c.self.inside.handed = omega (arith, ap length (c.requests.ensures ∙ ap (λ (d : Dialogue). d.own.requests) c.state.ensures), c.if-self-requests.true) in
    rw (← c.self.view_is) (hands_past c.self.inside c.self.invariant over)

pub returns-in-None : goal.returns-in-None
returns-in-None c = rw (← c.self.view_is) (hands_none c.self.inside c.self.invariant (none_in c.self.inside.ready.items (omega (arith, c.in-None.ensures.cases.0, c.self.inside.ready.ok.0))))

pub returns-in-Some : goal.returns-in-Some
returns-in-Some c = rw (← c.self.view_is) (hands_some c.self.inside c.in-Some.request _ c.self.invariant c.in-Some.ensures.items)
