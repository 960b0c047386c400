use Rattle.std.proofs.Common.{rules}
use Rattle.expect_core.proofs.Turns.{is_side, turned_some}
use Rattle.expect_core.proofs.listen.next_child.Goals as goal

pub bounds-sides-next : goal.bounds-sides-next
bounds-sides-next c = is_side c.as_slice-sides.result.now c.args.lanes.now c.as_slice.result.now c.in-Some.next (search rules) c.in-Some.ensures.within

pub returns : goal.returns
returns c = λ o k.
    turned_some c.args.times c.args.plan.now c.args.lanes.now o k c.in_ok-heads.heads.items c.in-Some.next c.index-sides-next.result
    (search rules) (search rules) (search rules) (search rules)
