use Rattle.std.proofs.Common.{◌≡◌, ◌+◌}
use Rattle.child_desk.specs.Book.{logged}
use Rattle.child_desk.specs.Line.{Leaves}
use Rattle.child_desk.specs.Told.{asked_of_hand}
use Rattle.child_desk.specs.Turn.{Comes}
use Rattle.child_desk.specs.Heard.{Hears}
use Rattle.child_desk.proofs.hearing.hear_children.Given as goal

abbrev pub invariant-loop-index : goal.invariant-loop-index
invariant-loop-index g l = record {
  kept : Leaves l.fn.book l.book;
  hand : (l.ends.answers ≡ l.fn.ends.answers) × (asked_of_hand l.ends ≡ asked_of_hand l.fn.ends);
  comes : Comes l.at l.fn.book l.book;
  heard : Hears (l.at + 1) l.fn.ends.readers (logged l.fn.book) l.ends.readers (logged l.book);
}
