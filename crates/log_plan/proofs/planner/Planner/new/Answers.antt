use Rattle.std.proofs.Common.{refl}
use Rattle.log_plan.proofs.Following.{stands_first}
use Rattle.log_plan.proofs.Looping.{is_short}
use Rattle.log_plan.proofs.planner.Planner.new.Goals as goal

pub returns : goal.returns
returns c = (is_short c.args.script c.len.result c.len.ensures c.if-len-gt-SOURCE_LIMIT.false, λ exits. stands_first c.args.script exits _ c.in_ok-hall.ensures c.new.ensures refl, c.new.ensures)
