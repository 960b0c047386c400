use Rattle.std.proofs.Common.{◌≡◌, ◌+◌, length}
use Rattle.std.specs.Prelude.{IsTrue}
use Rattle.child_desk.specs.Book.{logged}
use Rattle.child_desk.specs.Heard.{HearsAll}
use Rattle.child_desk.specs.Line.{Leaves, HearsNoHand}
use Rattle.child_serve.specs.Opened.{IsClosedIn, SameElsewhere, KeepsListed}
use Rattle.child_serve.proofs.Opening.{IsRest}
use Rattle.child_serve.proofs.Settling.{TakenTo, ClosedTo}
use Rattle.child_serve.proofs.worker.settle_script.Given as goal

abbrev pub invariant-loop-work : goal.invariant-loop-work
invariant-loop-work g l = record {
  rest : IsRest l.fn.end.works.items l.index l.work-iterator.rest.items;
  count : l.index + length l.work-iterator.rest.items ≡ length l.fn.end.works.items;
  lines : l.desk.lines.items ≡ l.fn.desk.lines.items;
  book : Leaves l.fn.desk.book l.desk.book;
  heard : HearsAll l.fn.desk.ends.items (logged l.fn.desk.book) l.desk.ends.items (logged l.desk.book);
  hands : HearsNoHand l.fn.desk.ends.items l.desk.ends.items;
  others : SameElsewhere l.at l.fn.desk.ends.items l.desk.ends.items;
  listed : KeepsListed l.fn.settled.unsettled.items l.settled.unsettled.items;
  closed : ClosedTo l.index l.script l.closed l.settled.unsettled.items;
  front : IsTrue l.closed → IsClosedIn l.at l.fn.end.answers l.desk.ends.items;
  taken : TakenTo l.index l.at l.script l.fn.end.works.items l.desk.ends.items l.settled.unsettled.items;
}
