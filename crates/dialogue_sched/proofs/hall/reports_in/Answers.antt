use Rattle.std.proofs.Common.{arith, ◌∙◌}
use Rattle.session.specs.Spent.{Reports}
use Rattle.dialogue_sched.proofs.Opening.{one_left, through_more}
use Rattle.dialogue_sched.proofs.hall.reports_in.Goals as goal

pub push_reserved-requires : goal.push_reserved-requires
push_reserved-requires c =
    let there = one_left Reports c.args.sessions.items c.loop-session.session-iterator.rest.items c.next.new.self.rest.items c.loop-session.list.items _ c.in-Some.session c.loop-session.invariant.through c.in-Some.ensures.steps.0 in
    omega (arith, there, c.requires.room, c.loop-session.invariant.room, c.args.sessions.ok.0)

pub loop-session-preserved : goal.loop-session-preserved
loop-session-preserved c =
    let e = c.push_reserved.ensures in
    record {
      through = rw (e.items, e.len)
          (through_more Reports c.args.sessions.items c.loop-session.session-iterator.rest.items c.next.new.self.rest.items c.loop-session.list.items _ c.in-Some.session c.into_report.result c.loop-session.invariant.through c.in-Some.ensures.steps.0 c.into_report.ensures);
      room = e.capacity ∙ c.loop-session.invariant.room;
    }
