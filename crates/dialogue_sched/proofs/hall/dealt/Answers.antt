use Rattle.std.proofs.Common.{List, sym, ap, ◌∙◌}
use Rattle.child_events.specs.declared.event.HallEvent.{HallEvent}
use Rattle.dialogue_sched.specs.Shares.{dealt_all}
use Rattle.dialogue_sched.proofs.hall.dealt.Goals as goal

pub loop-event-preserved : goal.loop-event-preserved
loop-event-preserved c = rw c.in_ok-deal.ensures (ap (λ (es : List HallEvent). dealt_all 1 es c.loop-event.shares) (sym c.in-Some.ensures.steps.0) ∙ c.loop-event.invariant)
