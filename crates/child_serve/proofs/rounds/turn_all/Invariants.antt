use Rattle.child_desk.specs.Book.{logged}
use Rattle.child_desk.specs.Heard.{HearsAll}
use Rattle.child_desk.specs.Line.{KeepsAll}
use Rattle.child_serve.proofs.rounds.turn_all.Given as goal

abbrev pub invariant-loop : goal.invariant-loop
invariant-loop g l = record {
  kept : KeepsAll l.fn.desk.lines.items l.fn.desk.ends.items l.fn.desk.book l.desk.lines.items l.desk.ends.items l.desk.book;
  heard : HearsAll l.fn.desk.ends.items (logged l.fn.desk.book) l.desk.ends.items (logged l.desk.book);
}
