use Rattle.std.proofs.Common.{List}
use Rattle.child_events.specs.declared.event.HallEvent.{HallEvent}
use Rattle.dialogue_sched.specs.declared.script.Script.{Script}
use Rattle.log_plan.specs.Standing.{Stands, SoManyDue}
use Rattle.log_plan.proofs.planner.Planner.answer_all.Given as goal

abbrev pub invariant-loop : goal.invariant-loop
invariant-loop l = (s : Script) (told : List HallEvent) → Stands s l.exits told l.fn.self → Stands s l.exits told l.self × SoManyDue s l.exits l.counter l.fn.self.events l.self.events
