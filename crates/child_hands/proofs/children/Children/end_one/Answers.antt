use Rattle.child_hands.proofs.Works.{ends_set, ends_none}
use Rattle.child_hands.proofs.children.Children.end_one.Goals as goal

pub returns-then-index-len-clause-works : goal.returns-then-index-len-clause-works
returns-then-index-len-clause-works g c =
    ends_set c.args.reader c.args.self.now.works.items _ c.join-finished.result c.join-finished.ensures c.keep.ensures.works

pub returns-else-index-len-clause-works : goal.returns-else-index-len-clause-works
returns-else-index-len-clause-works g c = ends_none c.args.reader c.args.self.now.works.items
