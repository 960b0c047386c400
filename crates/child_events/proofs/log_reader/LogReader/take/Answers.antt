use Rattle.std.proofs.Common.{◌≡◌, length, min, sym, ap, ◌∙◌, arith, length-drop}
use Rattle.child_events.specs.Reading.{parts}
use Rattle.child_events.proofs.Judged.{events_len, given_more, given_most}
use Rattle.child_events.proofs.log_reader.LogReader.take.Goals as goal

pub next-requires : goal.next-requires
next-requires c =
    let long : length c.args.self.now ≡ c.self.inside.left = ap length (sym c.self.view_is) ∙ events_len c.self.inside.numbers c.self.inside.number c.self.inside.left (parts 10 c.self.inside.rest.now) c.self.invariant.events in
    rw c.loop.invariant.left (omega (arith, length-drop c.loop.counter c.args.self.now, long, c.loop-test.true, c.min-count.ensures))

pub loop-preserved : goal.loop-preserved
loop-preserved c =
    let more = given_more c.loop.counter c.args.self.now c.next.new.self c.in_ok-event.event (sym c.loop.invariant.left ∙ c.in_ok-event.ensures) in
    record {
      given = rw (c.in_ok-push.ensures.pushed, c.loop.invariant.given) (sym more.0);
      left = sym more.1;
    }

pub returns-clause-given : goal.returns-clause-given
returns-clause-given c =
    let long : length c.args.self.now ≡ c.self.inside.left = ap length (sym c.self.view_is) ∙ events_len c.self.inside.numbers c.self.inside.number c.self.inside.left (parts 10 c.self.inside.rest.now) c.self.invariant.events in
    let all : c.loop.counter ≡ min c.args.most (length c.args.self.now) = omega (arith, long, c.loop-test.false, c.loop.auto.counter-end, c.min-count.ensures) in
    c.loop.invariant.given ∙ (given_most c.loop.counter c.args.most c.args.self.now all).0

pub returns-clause-left : goal.returns-clause-left
returns-clause-left c =
    let long : length c.args.self.now ≡ c.self.inside.left = ap length (sym c.self.view_is) ∙ events_len c.self.inside.numbers c.self.inside.number c.self.inside.left (parts 10 c.self.inside.rest.now) c.self.invariant.events in
    let all : c.loop.counter ≡ min c.args.most (length c.args.self.now) = omega (arith, long, c.loop-test.false, c.loop.auto.counter-end, c.min-count.ensures) in
    c.reader.view_is ∙ c.loop.invariant.left ∙ (given_most c.loop.counter c.args.most c.args.self.now all).1
