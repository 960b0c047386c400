use Rattle.std.proofs.Common.{◌≡◌, length, List, ap, subst, ◌∙◌, arith}
use Rattle.child_events.specs.declared.event.Event.{Event}
use Rattle.child_events.specs.declared.event.HallEvent.{HallEvent}
use Rattle.session.specs.Left.{Kept}
use Rattle.dialogue_sched.specs.Took.{AllTook}
use Rattle.dialogue_sched.specs.Shares.{AllTookShare}
use Rattle.dialogue_sched.proofs.Dealing.{shares_len, took_dealt}
use Rattle.dialogue_sched.proofs.hall.Hall.take_all.Goals as goal

pub feed_shares-requires : goal.feed_shares-requires
feed_shares-requires c =
    let seen : length c.shares.inside.list.items ≡ length c.in_ok-shares.shares = ap (λ (shares : List (List Event)). length shares) c.shares.view_is in
    let many : length c.in_ok-shares.shares ≡ c.len.result = shares_len 1 c.len.result c.events.inside.list.items c.in_ok-shares.shares c.in_ok-shares.ensures in
    omega (arith, seen, many, c.len.ensures, c.shares.inside.list.ok.0)

pub invariant_of-self : goal.invariant_of-self
invariant_of-self c =
    let same : length c.feed_shares.new.sessions.items ≡ length c.self.inside.sessions.items = omega (arith, c.feed_shares.ensures.same, c.feed_shares.new.sessions.ok.0, c.self.inside.sessions.ok.0) in
    (omega (arith, c.self.invariant.0, same), c.self.invariant.1, omega (arith, c.self.invariant.2, same))

pub returns-clause-took : goal.returns-clause-took
returns-clause-took c =
    let news = c.feed_shares.new.sessions.items in
    let took = subst (λ (shares : List (List Event)). AllTookShare shares c.self.inside.sessions.items news) (c.shares.view_is ∙ c.in_ok-shares.ensures) c.feed_shares.ensures.took in
    let all = took_dealt 1 _ c.events.inside.list.items c.self.inside.sessions.items news took in
    subst (λ (es : List HallEvent). AllTook 1 es c.args.self.now news) c.events.view_is
    (subst (λ (ks : List Kept). AllTook 1 c.events.inside.list.items ks news) c.self.view_is all)
