use Rattle.std.proofs.Common.{arith}
use Rattle.log_plan.proofs.Looping.{next_answered, none_left, nothing_seen, more_seen}
use Rattle.log_plan.proofs.planner.Planner.answer_all.Goals as goal

pub returns-then-not-branch : goal.returns-then-not-branch
returns-then-not-branch c s told st =
    let so_far = c.loop.invariant s told st in
    none_left s c.args.exits.now told c.loop.self c.answer_next.new.self c.in_ok-answer_next.field-0 c.if-not-branch.true (c.in_ok-answer_next.ensures s told so_far.0)

pub loop-preserved : goal.loop-preserved
loop-preserved c s told st =
    let so_far = c.loop.invariant s told st in
    next_answered s c.args.exits.now told c.loop.counter c.args.self.now.events c.loop.self c.answer_next.new.self c.in_ok-answer_next.field-0 c.if-not-branch.false so_far.1 (c.in_ok-answer_next.ensures s told so_far.0)

pub returns-then-is_asked : goal.returns-then-is_asked
returns-then-is_asked c s told st =
    let so_far = c.loop.invariant s told st in
    more_seen s c.args.exits.now told c.loop.counter c.args.self.now.events c.loop.self c.is_asked.new.self c.is_asked.result c.if-is_asked.true so_far.0 so_far.1 (omega arith)
    (c.is_asked.ensures.sees s c.args.exits.now told so_far.0) c.is_asked.ensures.moment

pub returns-else-is_asked : goal.returns-else-is_asked
returns-else-is_asked c s told st =
    let so_far = c.loop.invariant s told st in
    nothing_seen s c.args.exits.now told c.loop.self c.is_asked.new.self c.is_asked.result c.if-is_asked.false (c.is_asked.ensures.sees s c.args.exits.now told so_far.0)
