use Rattle.std.proofs.Common.{◌≡◌}
use Rattle.child_desk.specs.Book.{logged}
use Rattle.child_desk.specs.Heard.{HearsAll}
use Rattle.child_desk.specs.Line.{HearsNoHand}
use Rattle.child_desk.proofs.desk.Desk.has_come.Given as goal

abbrev pub invariant-loop-at : goal.invariant-loop-at
invariant-loop-at g l = record {
  lines : l.self.lines.items ≡ l.fn.self.lines.items;
  book : l.self.book ≡ l.fn.self.book;
  hands : HearsNoHand l.fn.self.ends.items l.self.ends.items;
  heard : HearsAll l.fn.self.ends.items (logged l.fn.self.book) l.self.ends.items (logged l.fn.self.book);
}
