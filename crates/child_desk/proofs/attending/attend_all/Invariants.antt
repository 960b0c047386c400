use Rattle.child_desk.specs.Book.{logged}
use Rattle.child_desk.specs.Line.{KeepsAll}
use Rattle.child_desk.specs.Heard.{HearsAll}
use Rattle.child_desk.specs.Turn.{ComesTo}
use Rattle.child_desk.proofs.Coming.{AllHeard, Behind, AskedTo}
use Rattle.child_desk.proofs.attending.attend_all.Given as goal

abbrev pub invariant-loop-at : goal.invariant-loop-at
invariant-loop-at g l = record {
  kept : KeepsAll l.fn.lines.items l.fn.ends.items l.fn.book l.lines.items l.ends.items l.book;
  heard : HearsAll l.fn.ends.items (logged l.fn.book) l.ends.items (logged l.book);
  comes : ComesTo l.fn.book.stamp (logged l.fn.book) l.book;
  entered : AllHeard l.fn.lines.items l.fn.ends.items l.fn.book l.ends.items l.book;
  behind : Behind l.at l.fn.lines.items l.fn.ends.items l.fn.book l.lines.items l.ends.items l.book;
  asked : AskedTo l.at l.lines.items l.ends.items l.book;
}
