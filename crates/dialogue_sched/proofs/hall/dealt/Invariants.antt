use Rattle.std.proofs.Common.{◌≡◌, [], replicate}
use Rattle.dialogue_sched.specs.Shares.{dealt_all}
use Rattle.dialogue_sched.proofs.hall.dealt.Given as goal

abbrev pub invariant-loop-event : goal.invariant-loop-event
invariant-loop-event l = dealt_all 1 l.event-iterator.rest.items l.shares ≡ dealt_all 1 l.fn.events.items (replicate l.scripts [])
