use Rattle.std.proofs.Common.{◌≡◌, ◌+◌, drop}
use Rattle.dialogue_sched.specs.Refusal.{first_refusal}
use Rattle.dialogue_sched.proofs.run.first_refused.Given as goal

abbrev pub invariant-loop-event : goal.invariant-loop-event
invariant-loop-event l = record {
  counted : l.at ≡ l.from + l.event-index;
  same : first_refusal l.scripts l.at (drop l.event-index l.events) ≡ first_refusal l.scripts l.from l.events;
}
