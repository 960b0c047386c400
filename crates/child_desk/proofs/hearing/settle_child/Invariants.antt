use Rattle.std.proofs.Common.{◌≡◌, ◌+◌}
use Rattle.feed_rings.specs.Ends.{all_put}
use Rattle.child_desk.specs.Book.{logged}
use Rattle.child_desk.specs.Line.{Leaves}
use Rattle.child_desk.specs.Told.{asked_of_hand}
use Rattle.child_desk.specs.Heard.{HearsAt}
use Rattle.child_desk.proofs.Hears.{AreLeft}
use Rattle.child_desk.proofs.hearing.settle_child.Given as goal

abbrev pub invariant-loop : goal.invariant-loop
invariant-loop g l = record {
  kept : Leaves l.fn.book l.book;
  hand : (l.ends.answers ≡ l.fn.ends.answers) × (asked_of_hand l.ends ≡ asked_of_hand l.fn.ends);
  heard : HearsAt (l.at + 1) l.index l.fn.ends.readers (logged l.fn.book) l.ends.readers (logged l.book);
  left : AreLeft l.index l.counter l.count l.finished l.ends.readers;
  put : all_put l.finished ≡ all_put l.fn.finished;
}
