use Rattle.std.proofs.Common.{◌≡◌, ◌∙◌, None, refl}
use Rattle.std.specs.Prelude.{box_value, option_map}
use Rattle.expect_core.proofs.Turns.{listens_on}
use Rattle.expect_core.proofs.listen.hear_all.Goals as goal

pub turns-preserved : goal.turns-preserved
turns-preserved c =
    let r = c.in_ok-heard in
    let heard = option_map box_value r.field-0 in
    let none : option_map box_value r.field-0 ≡ None = rw c.in-None.is refl in (
      listens_on c.args.times c.args.plan.now c.turns.lanes c.turn.new.lanes c.turns.own c.turn.new.own heard none r.ensures.turned r.ensures.fewer
          ∙ c.turns.invariant.0,
      r.ensures.knows,
    )
