use Rattle.std.proofs.Common.{◌≡◌, ◌+◌, length}
use Rattle.child_desk.specs.Book.{logged}
use Rattle.child_desk.specs.Heard.{HearsAll}
use Rattle.child_desk.specs.Line.{Leaves, HearsNoHand}
use Rattle.child_serve.proofs.Opening.{IsRest}
use Rattle.child_serve.proofs.Settling.{SettledTo}
use Rattle.child_serve.proofs.worker.settle_all.Given as goal

abbrev pub invariant-loop-hand : goal.invariant-loop-hand
invariant-loop-hand g l = record {
  rest : IsRest l.fn.hands.items l.at l.hand-iterator.rest.items;
  count : l.at + length l.hand-iterator.rest.items ≡ length l.fn.hands.items;
  lines : l.desk.lines.items ≡ l.fn.desk.lines.items;
  book : Leaves l.fn.desk.book l.desk.book;
  heard : HearsAll l.fn.desk.ends.items (logged l.fn.desk.book) l.desk.ends.items (logged l.desk.book);
  hands : HearsNoHand l.fn.desk.ends.items l.desk.ends.items;
  settled : SettledTo l.at l.place.workers l.place.worker l.fn.hands.items l.desk.ends.items l.settled.unsettled.items;
}
