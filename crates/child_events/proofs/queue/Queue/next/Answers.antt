use Rattle.std.proofs.Common.{subst, sym, ap}
use Rattle.std.specs.Prelude.{slice_set}
use Rattle.child_events.specs.declared.slot.Slot.{Slot}
use Rattle.child_events.specs.Queue.{Rises}
use Rattle.child_events.proofs.Queued.{rises_drop, rises_set}
use Rattle.child_events.proofs.queue.Queue.next.Goals as goal

-- the first slot, which has no more echoes, is taken off
pub invariant_of-self-2 : goal.invariant_of-self-2
invariant_of-self-2 c =
    let ss = c.self.inside.slots.items in
    let before = c.in-Some.slot.now in
    let emptied : Slot = record before { echoes = c.pop_front.new.self } in
    subst (Rises 0) (sym c.pop_front-2.ensures.rest)
    (rises_drop (slice_set ss 0 emptied) (rises_set 0 0 ss emptied before (ap (λ s. s.moment) c.in-Some.ensures.value) c.self.invariant))
