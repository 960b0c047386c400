use Rattle.child_desk.specs.Book.{logged}
use Rattle.std.proofs.Common.{◌≡◌, ◌≤◌, length, arith}
use Rattle.child_desk.proofs.Kept.{all_same, all_then}
use Rattle.child_desk.proofs.Coming.{to_none, to_then, none_in, behind_none, behind_step, asked_none, asked_step, asked_all, heard_step}
use Rattle.child_desk.proofs.Hears.{all_same as heard_same, all_then as heard_then}
use Rattle.child_desk.proofs.attending.attend_all.Goals as goal

pub loop-at-init : goal.loop-at-init
loop-at-init g c = record {
  kept = all_same c.args.lines.now.items c.args.ends.now.items c.args.book.now;
  heard = heard_same c.args.ends.now.items (logged c.args.book.now);
  comes = to_none c.args.book.now;
  entered = λ i. none_in i c.args.lines.now.items c.args.ends.now.items c.args.book.now;
  behind = behind_none c.args.lines.now.items c.args.ends.now.items c.args.book.now;
  asked = asked_none c.args.lines.now.items c.args.ends.now.items c.args.book.now;
}

pub returns-in_err-attend_at-clause-kept : goal.returns-in_err-attend_at-clause-kept
returns-in_err-attend_at-clause-kept g c =
    all_then c.args.lines.now.items c.loop-at.lines.items c.attend_at.new.lines.items c.args.ends.now.items c.loop-at.ends.items c.attend_at.new.ends.items c.args.book.now c.loop-at.book c.attend_at.new.book
    c.loop-at.invariant.kept c.attend_at.ensures.kept

pub returns-in_err-attend_at-clause-heard : goal.returns-in_err-attend_at-clause-heard
returns-in_err-attend_at-clause-heard g c =
    heard_then c.args.ends.now.items c.loop-at.ends.items c.attend_at.new.ends.items (logged c.args.book.now) (logged c.loop-at.book) (logged c.attend_at.new.book)
    c.loop-at.invariant.heard c.attend_at.ensures.heard

pub returns-in_err-attend_at-clause-comes : goal.returns-in_err-attend_at-clause-comes
returns-in_err-attend_at-clause-comes g c =
    to_then c.loop-at.at c.args.book.now.stamp (logged c.args.book.now) c.loop-at.book c.attend_at.new.book c.loop-at.invariant.comes c.attend_at.ensures.comes

pub returns-in_err-attend_at-clause-entered : goal.returns-in_err-attend_at-clause-entered
returns-in_err-attend_at-clause-entered g c =
    let now = c.loop-at in
    let new = c.attend_at.new in
    heard_step now.at c.args.lines.now.items now.lines.items new.lines.items c.args.ends.now.items now.ends.items new.ends.items c.args.book.now now.book new.book
    now.invariant.kept now.invariant.entered now.invariant.behind c.attend_at.ensures.elsewhere c.attend_at.ensures.comes c.attend_at.ensures.entered

pub loop-at-preserved : goal.loop-at-preserved
loop-at-preserved g c =
    let now = c.loop-at in
    let new = c.attend_at.new in
    let xs = c.args.lines.now.items in
    let ds = c.args.ends.now.items in
    let a = c.args.book.now in
    record {
      kept = all_then xs now.lines.items new.lines.items ds now.ends.items new.ends.items a now.book new.book now.invariant.kept c.attend_at.ensures.kept;
      heard = heard_then ds now.ends.items new.ends.items (logged a) (logged now.book) (logged new.book) now.invariant.heard c.attend_at.ensures.heard;
      comes = to_then now.at a.stamp (logged a) now.book new.book now.invariant.comes c.attend_at.ensures.comes;
      entered =
          heard_step now.at xs now.lines.items new.lines.items ds now.ends.items new.ends.items a now.book new.book
          now.invariant.kept now.invariant.entered now.invariant.behind c.attend_at.ensures.elsewhere c.attend_at.ensures.comes c.attend_at.ensures.entered;
      behind = behind_step now.at xs now.lines.items new.lines.items ds now.ends.items new.ends.items a now.book new.book now.invariant.behind c.attend_at.ensures.elsewhere c.attend_at.ensures.comes;
      asked = asked_step now.at now.lines.items new.lines.items now.ends.items new.ends.items now.book new.book now.invariant.asked c.attend_at.ensures.elsewhere c.attend_at.ensures.comes c.in_ok-attend_at.ensures.asked;
    }

pub returns-clause-asked : goal.returns-clause-asked
returns-clause-asked g c =
    let now = c.loop-at in
    let first = c.args.lines.now in
    let kept = now.invariant.kept in
    let count : length now.lines.items ≡ length first.items = kept.count in
    let all : length now.lines.items ≤ now.at = omega (arith, c.loop-at-test.false, c.loop-at.auto.at-end, c.len-at-end.ensures, first.ok.0, count) in
    asked_all now.at now.lines.items now.ends.items now.book all now.invariant.asked
