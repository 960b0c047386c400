use Rattle.std.proofs.Common.{rules}
use Rattle.expect_core.proofs.Turns.{takes_at}
use Rattle.expect_core.proofs.lanes.Lanes.take_item.Goals as goal

pub returns-then-i-len : goal.returns-then-i-len
returns-then-i-len c =
    takes_at c.args.times c.args.deadline c.args.i c.index-i.result c.args.self.now c.self.inside.list.items c.index_mut-lane.result.now c.take_item.new.items c.take_item.result
    (search rules) (search rules) (search rules) c.index_mut-lane.ensures.value c.take_item.ensures
