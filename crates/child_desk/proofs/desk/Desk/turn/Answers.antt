use Rattle.child_desk.specs.Book.{logged}
use Rattle.std.proofs.Common.{inl, inr}
use Rattle.child_desk.proofs.Kept.{all_left, all_then}
use Rattle.child_desk.proofs.Coming.{turns, heard_behind, heard_left, ok_too}
use Rattle.child_desk.proofs.Hears.{all_silent, all_then as heard_then}
use Rattle.child_desk.proofs.desk.Desk.turn.Goals as goal

pub returns-clause-kept : goal.returns-clause-kept
returns-clause-kept g c =
    let was = c.args.self.now in
    all_then was.lines.items was.lines.items c.attend_all.new.lines.items was.ends.items was.ends.items c.attend_all.new.ends.items was.book c.tick.new.book c.attend_all.new.book
    (all_left was.lines.items was.ends.items was.book c.tick.new.book c.tick.ensures.kept) c.attend_all.ensures.kept

pub returns-clause-heard : goal.returns-clause-heard
returns-clause-heard g c =
    let was = c.args.self.now in
    heard_then was.ends.items was.ends.items c.attend_all.new.ends.items (logged was.book) (logged c.tick.new.book) (logged c.attend_all.new.book)
    (all_silent was.ends.items (logged was.book) (logged c.tick.new.book) c.tick.ensures.silent) c.attend_all.ensures.heard

pub returns-clause-comes : goal.returns-clause-comes
returns-clause-comes g c = turns c.args.now c.args.self.now.book c.tick.new.book c.attend_all.new.book c.tick.ensures.ticked c.attend_all.ensures.comes

pub returns-clause-entered : goal.returns-clause-entered
returns-clause-entered g c =
    let was = c.args.self.now in
    heard_behind was.lines.items was.ends.items c.attend_all.new.ends.items was.book c.tick.new.book c.attend_all.new.book c.tick.ensures.kept c.attend_all.ensures.entered
