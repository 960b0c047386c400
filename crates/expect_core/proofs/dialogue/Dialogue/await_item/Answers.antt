use Rattle.std.proofs.Common.{Option, ap, ◌∙◌}
use Rattle.child_events.specs.declared.event.Item.{Item}
use Rattle.expect_core.specs.declared.turn.Want.TheVariants as want
use Rattle.expect_core.specs.declared.own.Own.{Own}
use Rattle.expect_core.specs.declared.turn.Turn.{Turn}
use Rattle.expect_core.specs.Turns.{at}
use Rattle.expect_core.specs.Running.{heard_as}
use Rattle.expect_core.specs.Going.{after}
use Rattle.expect_core.proofs.dialogue.Dialogue.await_item.Goals as goal

pub returns-in-None-clause-goes : goal.returns-in-None-clause-goes
returns-in-None-clause-goes c = λ k vars.
    let w = want.Item c.args.i c.args.why in
    let made : Item → Own → Turn = λ it o. at c.args.i (heard_as c.args.why c.args.i it) in
    c.next_item.ensures k c.args.left w made vars
    ∙ ap (λ (r : Option Item). after k c.args.left w made r vars c.next_item.new.self) c.in-None.is
    ∙ c.wait_for.ensures vars
