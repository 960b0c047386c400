use Rattle.std.proofs.Common.{◌-◌, arith}
use Rattle.child_events.proofs.Queued.{latest_last}
use Rattle.child_events.proofs.queue.latest.Goals as goal

pub returns-in-Some : goal.returns-in-Some
returns-in-Some c =
    let slots = c.args.slots.now in
    latest_last 0 (slots.len - 1) c.in-Some.slot.now slots.items (grind arith) c.in-Some.ensures.lookup
