use Rattle.expect_core.proofs.listen.look.Goals as goal

pub returns-in-Some-clause-knows : goal.returns-in-Some-clause-knows
returns-in-Some-clause-knows c = c.nothing.ensures.plan c.args.plan.now c.test.new.own
