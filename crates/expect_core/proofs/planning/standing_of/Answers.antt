use Rattle.expect_core.specs.Expecting.{standing_by}
use Rattle.expect_core.proofs.Siding.{list_said}
use Rattle.expect_core.proofs.planning.standing_of.Goals as goal

pub returns-clause-said : goal.returns-clause-said
returns-clause-said c =
    list_said c.standing_by.result (λ list o. standing_by list c.args.vars.now o) c.args.args.now c.args.own.now c.patterns_of.new.bodies c.in_ok-list.list c.in_ok-list.ensures.same c.in_ok-list.ensures.said c.standing_by.ensures
