use Rattle.std.proofs.Common.{◌≡◌, ◌+◌, length}
use Rattle.child_serve.specs.Opened.{OpenedTo}
use Rattle.child_serve.proofs.Opening.{IsRest}
use Rattle.child_serve.proofs.worker.open_all.Given as goal

abbrev pub invariant-loop-keeper : goal.invariant-loop-keeper
invariant-loop-keeper g l = record {
  rest : IsRest l.fn.keepers.items l.index l.keeper-iterator.rest.items;
  count : l.index + length l.keeper-iterator.rest.items ≡ length l.fn.keepers.items;
  hands : length l.opened.hands.items ≡ l.index;
  opened : OpenedTo l.place.workers l.place.worker l.fn.keepers.items l.opened.ends.items l.opened.hands.items;
}
