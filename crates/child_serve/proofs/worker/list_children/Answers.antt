use Rattle.child_serve.proofs.Listing.{listed_next}
use Rattle.child_serve.proofs.worker.list_children.Goals as goal

pub loop-index-preserved : goal.loop-index-preserved
loop-index-preserved c = record {
  kept = λ u h. c.list_child.ensures.kept u (c.loop-index.invariant.kept u h);
  listed = listed_next c.loop-index.index c.args.script c.loop-index.settled.unsettled.items c.list_child.new.settled.unsettled.items c.loop-index.invariant.listed c.list_child.ensures.kept c.in_ok-list_child.ensures.listed;
}
