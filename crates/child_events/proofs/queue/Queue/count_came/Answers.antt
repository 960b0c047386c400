use Rattle.std.proofs.Common.{◌≡◌, length, sym, ap, ◌∙◌, arith}
use Rattle.child_events.specs.Queue.{how_many_came}
use Rattle.child_events.proofs.Queued.{came_in_slots}
use Rattle.child_events.proofs.queue.Queue.count_came.Goals as goal

pub returns : goal.returns
returns c =
    let slots = c.self.inside.slots.items in
    let each : c.len.result ≡ length slots = grind arith in
    each ∙ sym (came_in_slots slots c.self.inside.last.items) ∙ ap how_many_came c.self.view_is
