use Rattle.std.proofs.Common.{◌∙◌}
use Rattle.expect_core.proofs.Steps.{two_pushed}
use Rattle.expect_core.proofs.expect.push_places.Goals as goal

pub returns : goal.returns
returns c =
    two_pushed c.args.stores.now c.push.new.self c.push-2.new.self _ _ _ _ _ _ _ _
    c.start_name.ensures (c.in_ok-start.ensures ∙ c.in_ok-decimal.ensures) c.end_name.ensures (c.in_ok-end.ensures ∙ c.in_ok-before.ensures)
    c.in_ok-push.ensures c.in_ok-push-2.ensures
