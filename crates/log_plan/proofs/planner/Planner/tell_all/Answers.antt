use Rattle.std.proofs.Common.{◌≡◌, ◌++◌, length, arith}
use Rattle.std.proofs.lemmas.List.{nil_from_length}
use Rattle.std.proofs.lemmas.Result.{err_from_is_err_and}
use Rattle.log_plan.proofs.Looping.{goes_on, fails_later, told_all}
use Rattle.log_plan.proofs.planner.Planner.tell_all.Goals as goal

pub tell-requires-clause-stands : goal.tell-requires-clause-stands
tell-requires-clause-stands c =
    let given = c.requires.stands in
    let way = c.loop-event.invariant given.0 given.1 given.2 given.3 in
    (given.0, way.told, way.stands, way.quiet)

pub loop-event-preserved : goal.loop-event-preserved
loop-event-preserved c s told st quiet =
    let way = c.loop-event.invariant s told st quiet in
    goes_on s c.args.exits.now (told ++ c.args.events.items) c.loop-event.event-iterator.rest.items c.next.new.self.rest.items c.in-Some.event c.loop-event.self c.tell.new.self
    c.in-Some.ensures.steps.0 way (c.in_ok-tell.ensures s way.told way.stands way.quiet)

pub returns-in_err-tell : goal.returns-in_err-tell
returns-in_err-tell c s told st quiet =
    let way = c.loop-event.invariant s told st quiet in
    let p = err_from_is_err_and c.from_residual.result c.from_residual.ensures.1 in
    rw (p.1, p.2)
    (fails_later s c.args.exits.now (told ++ c.args.events.items) c.loop-event.event-iterator.rest.items c.next.new.self.rest.items c.in-Some.event c.loop-event.self c.tell.new.self
    c.in-Some.ensures.steps.0 way c.in_err-tell.field-0.0 (c.in_err-tell.ensures s way.told way.stands way.quiet))

pub returns : goal.returns
returns c s told st quiet =
    let rest = c.loop-event.event-iterator.rest in
    let none : length rest.items ≡ 0 = omega (arith, rest.ok.0, c.in-None.ensures.steps.0) in
    told_all s c.args.exits.now (told ++ c.args.events.items) rest.items c.loop-event.self (nil_from_length rest.items none) (c.loop-event.invariant s told st quiet)
