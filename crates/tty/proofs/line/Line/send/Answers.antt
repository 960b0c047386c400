use Rattle.tty.proofs.Sent.{is_sent, both}
use Rattle.tty.proofs.line.Line.send.Goals as goal

pub invariant_of-self-then-self : goal.invariant_of-self-then-self
invariant_of-self-then-self c = (is_sent c.self.inside.modes c.self.inside.waiting c.self.inside.ended c.args.bytes.now c.send_to.new.waiting c.in_ok-given.given c.if-self.true c.self.invariant c.in_ok-given.ensures.sent).plain

pub returns-then-self-clause-sent : goal.returns-then-self-clause-sent
returns-then-self-clause-sent c =
    let s = is_sent c.self.inside.modes c.self.inside.waiting c.self.inside.ended c.args.bytes.now c.send_to.new.waiting c.in_ok-given.given c.if-self.true c.self.invariant c.in_ok-given.ensures.sent in
    rw (← c.self.view_is) (both _ _ _ _ s.echo s.actions)

pub returns-then-self-clause-line : goal.returns-then-self-clause-line
returns-then-self-clause-line c =
    let s = is_sent c.self.inside.modes c.self.inside.waiting c.self.inside.ended c.args.bytes.now c.send_to.new.waiting c.in_ok-given.given c.if-self.true c.self.invariant c.in_ok-given.ensures.sent in
    rw (← c.self.view_is) s.line

pub returns-then-self-clause-plain : goal.returns-then-self-clause-plain
returns-then-self-clause-plain c = (is_sent c.self.inside.modes c.self.inside.waiting c.self.inside.ended c.args.bytes.now c.send_to.new.waiting c.in_ok-given.given c.if-self.true c.self.invariant c.in_ok-given.ensures.sent).plain
