use Rattle.child_desk.specs.Book.{logged}
use Rattle.std.proofs.Common.{◌+◌, ◌∙◌, refl}
use Rattle.child_desk.proofs.Kept.{leaves_all, leaves_then}
use Rattle.child_desk.proofs.Coming.{comes_all, comes_then}
use Rattle.child_desk.proofs.Hears.{hears_same, hears_then, hears_of}
use Rattle.child_desk.proofs.hearing.hear_children.Goals as goal

pub loop-index-init : goal.loop-index-init
loop-index-init g c = record {
  kept = leaves_all c.args.book.now;
  hand = (refl, refl);
  comes = comes_all c.args.at c.args.book.now;
  heard = hears_same (c.args.at + 1) c.args.ends.now.readers (logged c.args.book.now);
}

pub returns-in_err-hear_child-clause-heard : goal.returns-in_err-hear_child-clause-heard
returns-in_err-hear_child-clause-heard g c =
    let now = c.loop-index in
    let new = c.hear_child.new in
    hears_then (c.args.at + 1) c.args.ends.now.readers now.ends.readers new.ends.readers (logged c.args.book.now) (logged now.book) (logged new.book) now.invariant.heard
    (hears_of (c.args.at + 1) now.index now.ends.readers new.ends.readers (logged now.book) (logged new.book) c.hear_child.ensures.heard)

pub loop-index-preserved : goal.loop-index-preserved
loop-index-preserved g c =
    let now = c.loop-index in
    let new = c.hear_child.new in
    record {
      kept = leaves_then c.args.book.now now.book new.book now.invariant.kept c.hear_child.ensures.kept;
      hand = (c.hear_child.ensures.hand.0 ∙ now.invariant.hand.0, c.hear_child.ensures.hand.1 ∙ now.invariant.hand.1);
      comes = comes_then c.args.at c.args.book.now now.book new.book now.invariant.comes c.hear_child.ensures.comes;
      heard =
          hears_then (c.args.at + 1) c.args.ends.now.readers now.ends.readers new.ends.readers (logged c.args.book.now) (logged now.book) (logged new.book) now.invariant.heard
          (hears_of (c.args.at + 1) now.index now.ends.readers new.ends.readers (logged now.book) (logged new.book) c.hear_child.ensures.heard);
    }

pub returns-in_err-hear_child-clause-comes : goal.returns-in_err-hear_child-clause-comes
returns-in_err-hear_child-clause-comes g c =
    let now = c.loop-index in
    comes_then c.args.at c.args.book.now now.book c.hear_child.new.book now.invariant.comes c.hear_child.ensures.comes

pub returns-in_err-hear_child-clause-hand : goal.returns-in_err-hear_child-clause-hand
returns-in_err-hear_child-clause-hand g c =
    let now = c.loop-index in
    (c.hear_child.ensures.hand.0 ∙ now.invariant.hand.0, c.hear_child.ensures.hand.1 ∙ now.invariant.hand.1)
