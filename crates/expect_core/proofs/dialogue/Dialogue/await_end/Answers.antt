use Rattle.std.proofs.Common.{Option, ap, ◌∙◌}
use Rattle.child_events.specs.declared.event.Answer.{Answer}
use Rattle.expect_core.specs.declared.turn.Want.TheVariants as want
use Rattle.expect_core.specs.declared.own.Own.{Own}
use Rattle.expect_core.specs.declared.turn.Turn.{Turn}
use Rattle.expect_core.specs.Answered.{failure}
use Rattle.expect_core.specs.Expecting.{ended}
use Rattle.expect_core.specs.Going.{after}
use Rattle.expect_core.proofs.dialogue.Dialogue.await_end.Goals as goal

pub returns-in-None-clause-goes : goal.returns-in-None-clause-goes
returns-in-None-clause-goes c = λ k vars.
    let w = want.End c.args.i c.args.plan in
    let made : Answer → Own → Turn = λ a o. ended c.args.plan c.args.i (failure a) o in
    c.next_answer.ensures k c.args.left w made vars
    ∙ ap (λ (r : Option Answer). after k c.args.left w made r vars c.next_answer.new.self) c.in-None.is
    ∙ c.wait_for.ensures vars
