use Rattle.std.proofs.Common.{◌≡◌, ◌+◌, length}
use Rattle.child_serve.specs.Opened.{AllListed}
use Rattle.child_serve.proofs.worker.list_all.Given as goal

abbrev pub invariant-loop-hand : goal.invariant-loop-hand
invariant-loop-hand g l = record {
  count : l.at + length l.hand-iterator.rest.items ≡ length l.fn.hands.items;
  listed : AllListed l.place.workers l.place.worker l.at l.settled.unsettled.items;
}
