use Rattle.std.proofs.Common.{rules}
use Rattle.expect_core.proofs.Siding.{placed_behind, placed_same, placed_other}
use Rattle.expect_core.proofs.plan.Places.insert.Goals as goal

pub returns-then-at-len : goal.returns-then-at-len
returns-then-at-len c =
    placed_behind c.args.i c.rank-at.result c.args.self.now c.self.inside.list.items (search rules) (search rules) c.push.new.self.items (search rules) (search rules)

pub returns-then-index : goal.returns-then-index
returns-then-index c =
    placed_same c.args.i c.rank-at.result c.args.self.now c.self.inside.list.items (search rules) (search rules) c.index.result.now (search rules) (search rules) (search rules)

pub returns : goal.returns
returns c =
    placed_other c.args.i c.rank-at.result c.args.self.now c.self.inside.list.items (search rules) (search rules) c.index.result.now c.insert.new.self.items
    (search rules) (search rules) (search rules) (search rules)
