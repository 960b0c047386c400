use Rattle.std.proofs.Common.{[], Ok, Err}
use Rattle.std.proofs.lemmas.Result.{err_from_is_err_and}
use Rattle.log_plan.proofs.Looping.{fails_at_once, told_list, fails_on_the_way, plans_all, all_fit}
use Rattle.log_plan.proofs.planning.plan.Goals as goal

pub answer_all-requires : goal.answer_all-requires
answer_all-requires c = (c.args.script, [], c.in_ok-planner.ensures.1 c.args.timeline.exits)

pub returns-in_err-answer_all-clause-plans : goal.returns-in_err-answer_all-clause-plans
returns-in_err-answer_all-clause-plans c =
    let b = c.in_ok-planner.ensures in
    let p = err_from_is_err_and c.from_residual-in_err-answer_all.result c.from_residual-in_err-answer_all.ensures.1 in
    rw (p.1, p.2) (fails_at_once c.args.script c.args.timeline c.in_ok-planner.planner.events c.answer_all.new.self c.in_err-answer_all.field-0.0 b.0 (c.in_err-answer_all.ensures c.args.script [] (b.1 c.args.timeline.exits)))

pub tell_all-requires-clause-stands : goal.tell_all-requires-clause-stands
tell_all-requires-clause-stands c =
    let h = c.in_ok-answer_all.ensures c.args.script [] (c.in_ok-planner.ensures.1 c.args.timeline.exits) in
    (c.args.script, [], h.0, h.1)

pub returns-in_err-tell_all-clause-plans : goal.returns-in_err-tell_all-clause-plans
returns-in_err-tell_all-clause-plans c =
    let b = c.in_ok-planner.ensures in
    let h = c.in_ok-answer_all.ensures c.args.script [] (b.1 c.args.timeline.exits) in
    let p = err_from_is_err_and c.from_residual-in_err-tell_all.result c.from_residual-in_err-tell_all.ensures.1 in
    rw (p.1, p.2) (fails_on_the_way c.args.script c.args.timeline c.tell_all.new.self c.in_err-tell_all.field-0.0 b.0 (told_list c.args.script c.args.timeline.exits c.events.inside.list.items c.args.timeline.events c.tell_all.new.self (Err c.in_err-tell_all.field-0.0) c.events.view_is (c.in_err-tell_all.ensures c.args.script [] h.0 h.1)))

pub returns-clause-plans : goal.returns-clause-plans
returns-clause-plans c =
    let b = c.in_ok-planner.ensures in
    let h = c.in_ok-answer_all.ensures c.args.script [] (b.1 c.args.timeline.exits) in
    plans_all c.args.script c.args.timeline c.tell_all.new.self c.into_events.result b.0 (told_list c.args.script c.args.timeline.exits c.events.inside.list.items c.args.timeline.events c.tell_all.new.self (Ok tt) c.events.view_is (c.in_ok-tell_all.ensures c.args.script [] h.0 h.1)) c.into_events.ensures.events c.into_events.ensures.whole c.into_events.ensures.memory

pub returns-clause-fit : goal.returns-clause-fit
returns-clause-fit c =
    let h = c.in_ok-answer_all.ensures c.args.script [] (c.in_ok-planner.ensures.1 c.args.timeline.exits) in
    all_fit c.args.script c.args.timeline.exits _ c.tell_all.new.self c.into_events.result (c.in_ok-tell_all.ensures c.args.script [] h.0 h.1) c.into_events.ensures.events
