use Rattle.std.proofs.Common.{ap, sym, ◌∙◌}
use Rattle.dialogue_sched.specs.Hall.{Begins, opening_fault}
use Rattle.dialogue_sched.proofs.Opening.{through_more, opens_not}
use Rattle.dialogue_sched.proofs.hall.Hall.new.Goals as goal

pub returns-in-Some : goal.returns-in-Some
returns-in-Some c = opens_not c.args.scripts.items c.in-Some.fault (ap opening_fault (sym c.as_slice.ensures.value) ∙ sym c.opening_fault.ensures ∙ c.in-Some.is)

pub loop-script-preserved : goal.loop-script-preserved
loop-script-preserved c =
    let e = c.in_ok-push-in-Ok-new.ensures in
    rw (e.items, e.len)
    (through_more Begins c.args.scripts.items c.loop-script.script-iterator.rest.items c.next.new.self.rest.items c.loop-script.sessions.items _ c.in-Some-script.script c.in-Ok-new.session c.loop-script.invariant c.in-Some-script.ensures.steps.0
    (record { handed = c.in-Ok-new.ensures.handed; says = c.in-Ok-new.ensures.left }))
