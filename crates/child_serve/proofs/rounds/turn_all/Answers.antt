use Rattle.child_desk.specs.Book.{logged}
use Rattle.child_desk.proofs.Hears.{all_same as hears_nothing, all_then as hears_then}
use Rattle.child_desk.proofs.Kept.{all_then}
use Rattle.child_serve.proofs.Rounding.{kept_same}
use Rattle.child_serve.proofs.rounds.turn_all.Goals as goal

pub returns-in_err-told-clause-heard : goal.returns-in_err-told-clause-heard
returns-in_err-told-clause-heard g c = hears_nothing c.args.desk.now.ends.items (logged c.args.desk.now.book)

pub returns-in_err-is_taken-2-clause-kept : goal.returns-in_err-is_taken-2-clause-kept
returns-in_err-is_taken-2-clause-kept g c =
    let was = c.args.desk.now in
    let now = c.loop.desk in
    let desk = c.has_come.new.self in
    let left = c.turn-then-is_due.new.desk in
    all_then was.lines.items desk.lines.items left.lines.items was.ends.items desk.ends.items left.ends.items was.book desk.book left.book
    (kept_same was.lines.items now.lines.items desk.lines.items was.ends.items now.ends.items desk.ends.items was.book now.book desk.book c.loop.invariant.kept c.has_come.ensures.lines c.has_come.ensures.hands c.has_come.ensures.book) c.turn-then-is_due.ensures.kept

pub returns-in_err-is_taken-2-clause-heard : goal.returns-in_err-is_taken-2-clause-heard
returns-in_err-is_taken-2-clause-heard g c =
    let was = c.args.desk.now in
    let now = c.loop.desk in
    let desk = c.has_come.new.self in
    let left = c.turn-then-is_due.new.desk in
    hears_then was.ends.items desk.ends.items left.ends.items (logged was.book) (logged desk.book) (logged left.book)
    (hears_then was.ends.items now.ends.items desk.ends.items (logged was.book) (logged now.book) (logged desk.book) c.loop.invariant.heard c.has_come.ensures.heard) c.turn-then-is_due.ensures.heard

pub loop-preserved-then-is_due : goal.loop-preserved-then-is_due
loop-preserved-then-is_due g c =
    let was = c.args.desk.now in
    let now = c.loop.desk in
    let desk = c.has_come.new.self in
    let left = c.turn-then-is_due.new.desk in
    record {
      kept = all_then was.lines.items desk.lines.items left.lines.items was.ends.items desk.ends.items left.ends.items was.book desk.book left.book
          (kept_same was.lines.items now.lines.items desk.lines.items was.ends.items now.ends.items desk.ends.items was.book now.book desk.book c.loop.invariant.kept c.has_come.ensures.lines c.has_come.ensures.hands c.has_come.ensures.book) c.turn-then-is_due.ensures.kept;
      heard = hears_then was.ends.items desk.ends.items left.ends.items (logged was.book) (logged desk.book) (logged left.book)
          (hears_then was.ends.items now.ends.items desk.ends.items (logged was.book) (logged now.book) (logged desk.book) c.loop.invariant.heard c.has_come.ensures.heard) c.turn-then-is_due.ensures.heard;
    }

pub loop-preserved : goal.loop-preserved
loop-preserved g c =
    let was = c.args.desk.now in
    let now = c.loop.desk in
    let desk = c.has_come.new.self in
    let left = c.stand_by.new.desk in
    record {
      kept = all_then was.lines.items desk.lines.items left.lines.items was.ends.items desk.ends.items left.ends.items was.book desk.book left.book
          (kept_same was.lines.items now.lines.items desk.lines.items was.ends.items now.ends.items desk.ends.items was.book now.book desk.book c.loop.invariant.kept c.has_come.ensures.lines c.has_come.ensures.hands c.has_come.ensures.book) c.stand_by.ensures.kept;
      heard = hears_then was.ends.items desk.ends.items left.ends.items (logged was.book) (logged desk.book) (logged left.book)
          (hears_then was.ends.items now.ends.items desk.ends.items (logged was.book) (logged now.book) (logged desk.book) c.loop.invariant.heard c.has_come.ensures.heard) c.stand_by.ensures.heard;
    }

pub loop-preserved-then-is_due-2 : goal.loop-preserved-then-is_due-2
loop-preserved-then-is_due-2 g c =
    let was = c.args.desk.now in
    let now = c.loop.desk in
    let desk = c.has_come.new.self in
    record {
      kept = kept_same was.lines.items now.lines.items desk.lines.items was.ends.items now.ends.items desk.ends.items was.book now.book desk.book c.loop.invariant.kept c.has_come.ensures.lines c.has_come.ensures.hands c.has_come.ensures.book;
      heard = hears_then was.ends.items now.ends.items desk.ends.items (logged was.book) (logged now.book) (logged desk.book) c.loop.invariant.heard c.has_come.ensures.heard;
    }

pub returns-in_err-last_turn-clause-kept : goal.returns-in_err-last_turn-clause-kept
returns-in_err-last_turn-clause-kept g c =
    let was = c.args.desk.now in
    let now = c.loop.desk in
    let left = c.last_turn.new.desk in
    all_then was.lines.items now.lines.items left.lines.items was.ends.items now.ends.items left.ends.items was.book now.book left.book c.loop.invariant.kept c.last_turn.ensures.kept

pub returns-in_err-last_turn-clause-heard : goal.returns-in_err-last_turn-clause-heard
returns-in_err-last_turn-clause-heard g c =
    let was = c.args.desk.now in
    let now = c.loop.desk in
    let left = c.last_turn.new.desk in
    hears_then was.ends.items now.ends.items left.ends.items (logged was.book) (logged now.book) (logged left.book) c.loop.invariant.heard c.last_turn.ensures.heard

pub returns-then-not-is_taken-clause-kept : goal.returns-then-not-is_taken-clause-kept
returns-then-not-is_taken-clause-kept g c =
    let was = c.args.desk.now in
    let now = c.loop.desk in
    let left = c.last_turn.new.desk in
    all_then was.lines.items now.lines.items left.lines.items was.ends.items now.ends.items left.ends.items was.book now.book left.book c.loop.invariant.kept c.last_turn.ensures.kept

pub returns-then-not-is_taken-clause-heard : goal.returns-then-not-is_taken-clause-heard
returns-then-not-is_taken-clause-heard g c =
    let was = c.args.desk.now in
    let now = c.loop.desk in
    let left = c.last_turn.new.desk in
    hears_then was.ends.items now.ends.items left.ends.items (logged was.book) (logged now.book) (logged left.book) c.loop.invariant.heard c.last_turn.ensures.heard
