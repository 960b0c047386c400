use Rattle.child_desk.specs.Book.{logged}
use Rattle.std.proofs.Common.{◌+◌, ◌∙◌}
use Rattle.child_desk.proofs.Kept.{leaves_then}
use Rattle.child_desk.proofs.Coming.{comes_then}
use Rattle.child_desk.proofs.Hears.{hears_at_then}
use Rattle.child_desk.proofs.hearing.hear_child.Goals as goal

pub loop-turn-preserved : goal.loop-turn-preserved
loop-turn-preserved g c =
    let now = c.loop-turn in
    let new = c.hear.new in
    record {
      kept = leaves_then c.args.book.now now.book new.book now.invariant.kept c.hear.ensures.kept;
      hand = (c.hear.ensures.hand.0 ∙ now.invariant.hand.0, c.hear.ensures.hand.1 ∙ now.invariant.hand.1);
      comes = comes_then c.args.at c.args.book.now now.book new.book now.invariant.comes c.hear.ensures.comes;
      heard =
          hears_at_then (c.args.at + 1) c.args.index c.args.ends.now.readers now.ends.readers new.ends.readers (logged c.args.book.now) (logged now.book) (logged new.book)
          now.invariant.heard c.hear.ensures.heard;
    }

pub returns-in_err-hear-clause-heard : goal.returns-in_err-hear-clause-heard
returns-in_err-hear-clause-heard g c =
    let now = c.loop-turn in
    let new = c.hear.new in
    hears_at_then (c.args.at + 1) c.args.index c.args.ends.now.readers now.ends.readers new.ends.readers (logged c.args.book.now) (logged now.book) (logged new.book) now.invariant.heard c.hear.ensures.heard

pub returns-then-not-branch-clause-kept : goal.returns-then-not-branch-clause-kept
returns-then-not-branch-clause-kept g c =
    let now = c.loop-turn in
    leaves_then c.args.book.now now.book c.hear.new.book now.invariant.kept c.hear.ensures.kept

pub returns-then-not-branch-clause-heard : goal.returns-then-not-branch-clause-heard
returns-then-not-branch-clause-heard g c =
    let now = c.loop-turn in
    let new = c.hear.new in
    hears_at_then (c.args.at + 1) c.args.index c.args.ends.now.readers now.ends.readers new.ends.readers (logged c.args.book.now) (logged now.book) (logged new.book) now.invariant.heard c.hear.ensures.heard

pub returns-in_err-hear-clause-kept : goal.returns-in_err-hear-clause-kept
returns-in_err-hear-clause-kept g c =
    let now = c.loop-turn in
    leaves_then c.args.book.now now.book c.hear.new.book now.invariant.kept c.hear.ensures.kept

pub returns-in_err-hear-clause-comes : goal.returns-in_err-hear-clause-comes
returns-in_err-hear-clause-comes g c =
    let now = c.loop-turn in
    comes_then c.args.at c.args.book.now now.book c.hear.new.book now.invariant.comes c.hear.ensures.comes

pub returns-in_err-hear-clause-hand : goal.returns-in_err-hear-clause-hand
returns-in_err-hear-clause-hand g c =
    let now = c.loop-turn in
    (c.hear.ensures.hand.0 ∙ now.invariant.hand.0, c.hear.ensures.hand.1 ∙ now.invariant.hand.1)

pub returns-then-not-branch-clause-comes : goal.returns-then-not-branch-clause-comes
returns-then-not-branch-clause-comes g c =
    let now = c.loop-turn in
    comes_then c.args.at c.args.book.now now.book c.hear.new.book now.invariant.comes c.hear.ensures.comes

pub returns-then-not-branch-clause-hand : goal.returns-then-not-branch-clause-hand
returns-then-not-branch-clause-hand g c =
    let now = c.loop-turn in
    (c.hear.ensures.hand.0 ∙ now.invariant.hand.0, c.hear.ensures.hand.1 ∙ now.invariant.hand.1)
