use Rattle.std.proofs.Common.{rules}
use Rattle.child_events.specs.declared.event.Cause.TheVariants.{Other}
use Rattle.child_hands.proofs.Pumps.{read_given_up}
use Rattle.child_hands.proofs.pump.give_up.Goals as goal

pub returns-in-Ok : goal.returns-in-Ok
returns-in-Ok g c =
    read_given_up c.args.script c.args.child Other c.args.feed c.put.new.self c.finish.result c.put.ensures.ring (search rules) c.finish.ensures.ring c.finish.ensures.items
