use Rattle.child_serve.specs.Opened.{KeepsListed}
use Rattle.child_serve.proofs.Listing.{ListedTo}
use Rattle.child_serve.proofs.worker.list_children.Given as goal

abbrev pub invariant-loop-index : goal.invariant-loop-index
invariant-loop-index l = record {
  kept : KeepsListed l.fn.settled.unsettled.items l.settled.unsettled.items;
  listed : ListedTo l.index l.script l.settled.unsettled.items;
}
