use Rattle.std.proofs.Common.{◌≡◌, ◌+◌, ◌-◌, length, List, ap, ◌∙◌, arith}
use Rattle.std.proofs.lemmas.Bool.Decides.{nat_tests}
use Rattle.child_events.specs.declared.event.Event.{Event}
use Rattle.dialogue_sched.proofs.Dealing.{dealt_none, dealt_child, dealt_tick}
use Rattle.dialogue_sched.proofs.shares.Shares.deal.Goals as goal

pub returns-then-number-eq0 : goal.returns-then-number-eq0
returns-then-number-eq0 c =
    rw c.in-Child.is
    (dealt_none 1 c.in-Child.script c.in-Child.child c.in-Child.moment c.in-Child.what c.args.self.now (λ i lt same. absurd (omega (arith, same, c.if-number-eq0.true))))

pub returns-then-number-len : goal.returns-then-number-len
returns-then-number-len c =
    let long = ap (λ (shares : List (List Event)). length shares) c.self.view_is in
    rw c.in-Child.is
    (dealt_none 1 c.in-Child.script c.in-Child.child c.in-Child.moment c.in-Child.what c.args.self.now
    (λ i lt same. absurd (omega (arith, same, lt, long, c.len.ensures, c.self.inside.list.ok.0, c.if-number-len.true))))

pub returns-in_ok-put_at-in-Child : goal.returns-in_ok-put_at-in-Child
returns-in_ok-put_at-in-Child c =
    let f = c.in_ok-put_at-in-Child.ensures.put in
    let number : c.in-Child.script ≡ 1 + (c.in-Child.script - 1) = grind (arith, nat_tests, c.if-number-eq0.false) in
    rw (c.in-Child.is, ← c.self.view_is)
    (f.2 ∙ dealt_child 1 (c.in-Child.script - 1) c.in-Child.script c.in-Child.child c.in-Child.moment c.in-Child.what c.self.inside.list.items f.0 number f.1)

pub returns-in_ok-put_tick-in-Tick : goal.returns-in_ok-put_tick-in-Tick
returns-in_ok-put_tick-in-Tick c = rw (c.in-Tick.is, ← c.self.view_is) (dealt_tick 1 c.in-Tick.moment c.self.inside.list.items c.put_tick.new.shares.items c.in_ok-put_tick-in-Tick.ensures)
