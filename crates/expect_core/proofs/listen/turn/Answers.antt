use Rattle.expect_core.proofs.Turns.{one_fewer}
use Rattle.expect_core.proofs.listen.turn.Goals as goal

pub returns-in_default-heard-clause-fewer : goal.returns-in_default-heard-clause-fewer
returns-in_default-heard-clause-fewer c =
    let x = c.in-Some-take_item in
    one_fewer c.args.times c.args.plan.now.deadline c.in-Some.child (x.moment, x.item) c.args.lanes.now c.take_item.new.self x.ensures

pub returns-clause-knows : goal.returns-clause-knows
returns-clause-knows c = c.nothing.ensures.plan c.args.plan.now c.hear.new.own
