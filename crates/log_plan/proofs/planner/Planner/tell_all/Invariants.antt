use Rattle.std.proofs.Common.{List, ◌++◌}
use Rattle.child_events.specs.declared.event.HallEvent.{HallEvent}
use Rattle.dialogue_sched.specs.declared.script.Script.{Script}
use Rattle.log_plan.specs.Standing.{Stands, IsAnswered}
use Rattle.log_plan.proofs.Looping.{IsOnTheWay}
use Rattle.log_plan.proofs.planner.Planner.tell_all.Given as goal

abbrev pub invariant-loop-event : goal.invariant-loop-event
invariant-loop-event l = (s : Script) (told : List HallEvent) → Stands s l.exits told l.fn.self → IsAnswered s l.exits l.fn.self → IsOnTheWay s l.exits (told ++ l.fn.events.items) l.event-iterator.rest.items l.self
