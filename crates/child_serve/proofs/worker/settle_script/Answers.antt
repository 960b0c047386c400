use Rattle.std.proofs.Common.{◌≡◌, length, sym, ap, subst, ◌∙◌, arith}
use Rattle.child_desk.specs.Book.{logged}
use Rattle.child_desk.specs.Line.{Leaves}
use Rattle.child_desk.proofs.Hears.{all_then}
use Rattle.child_desk.proofs.Kept.{leaves_all, leaves_then, no_hand_then}
use Rattle.child_serve.proofs.Opening.{rest_whole, rest_first, rest_next}
use Rattle.child_serve.proofs.Settling.{settles_hears, left_still, taken_next, taken_all, closed_next, closed_still}
use Rattle.child_serve.proofs.worker.settle_script.Goals as goal

pub loop-work-init : goal.loop-work-init
loop-work-init g c =
    let all = c.into_iter-work-iterator.ensures.into_iter_gives.0 in
    let size = ap length all in
    let was = c.args.desk.now in
    let looked = c.close-closed.ensures in
    record {
      rest = rest_whole c.args.end.works.items c.into_iter-work-iterator.result.rest.items all;
      count = omega (arith, size);
      lines = looked.lines;
      book = subst (Leaves was.book) (sym looked.book) (leaves_all was.book);
      heard = looked.heard;
      hands = looked.hands;
      others = looked.others;
      listed = λ u h. h;
      closed = λ index lt apart. absurd (omega (arith, lt));
      front = looked.closed;
      taken = λ index work lt got. absurd (omega (arith, lt));
    }

pub settle_child-requires-clause-left : goal.settle_child-requires-clause-left
settle_child-requires-clause-left g c κs within =
    let was = c.args.desk.now in
    let now = c.loop-work.desk in
    left_still c.args.at c.args.end.works.items was.ends.items now.ends.items (logged was.book) (logged now.book) c.loop-work.invariant.heard c.requires.left c.loop-work.index c.in-Some.work
    (rest_first c.args.end.works.items c.loop-work.index c.loop-work.work-iterator.rest.items c.next.new.self.rest.items c.in-Some.work c.loop-work.invariant.rest c.in-Some.ensures.steps.0)

pub returns-in_err-settle_child-clause-heard : goal.returns-in_err-settle_child-clause-heard
returns-in_err-settle_child-clause-heard g c =
    let was = c.args.desk.now in
    let now = c.loop-work.desk in
    let left = c.settle_child.new.desk in
    all_then was.ends.items now.ends.items left.ends.items (logged was.book) (logged now.book) (logged left.book) c.loop-work.invariant.heard
    (settles_hears c.args.at c.loop-work.index now.ends.items left.ends.items (logged now.book) (logged left.book) c.settle_child.ensures.heard)

pub returns-in_err-settle_child-clause-hands : goal.returns-in_err-settle_child-clause-hands
returns-in_err-settle_child-clause-hands g c =
    no_hand_then c.args.desk.now.ends.items c.loop-work.desk.ends.items c.settle_child.new.desk.ends.items c.loop-work.invariant.hands c.settle_child.ensures.hands

pub loop-work-preserved : goal.loop-work-preserved
loop-work-preserved g c =
    let works = c.args.end.works.items in
    let rest = c.loop-work.work-iterator.rest.items in
    let step = c.in-Some.ensures.steps.0 in
    let less = ap length step in
    let size = c.loop-work.invariant.count in
    let was = c.args.desk.now in
    let now = c.loop-work.desk in
    let left = c.settle_child.new.desk in
    let settles = c.settle_child.ensures.heard in
    let before = c.loop-work.settled.unsettled.items in
    let listed = c.settle_child.new.settled.unsettled.items in
    record {
      rest = rest_next works c.loop-work.index rest c.next.new.self.rest.items c.in-Some.work c.loop-work.invariant.rest step;
      count = omega (arith, size, less);
      lines = c.settle_child.ensures.lines ∙ c.loop-work.invariant.lines;
      book = leaves_then was.book now.book left.book c.loop-work.invariant.book c.settle_child.ensures.book;
      heard = all_then was.ends.items now.ends.items left.ends.items (logged was.book) (logged now.book) (logged left.book) c.loop-work.invariant.heard
          (settles_hears c.args.at c.loop-work.index now.ends.items left.ends.items (logged now.book) (logged left.book) settles);
      hands = no_hand_then was.ends.items now.ends.items left.ends.items c.loop-work.invariant.hands c.settle_child.ensures.hands;
      others = λ i other. settles.others i other ∙ c.loop-work.invariant.others i other;
      listed = λ u h. c.settle_child.ensures.listed u (c.loop-work.invariant.listed u h);
      closed = closed_next c.loop-work.index c.args.script c.close-closed.result before listed c.settle_child.ensures.listed c.in_ok-settle_child.ensures.closed c.loop-work.invariant.closed;
      front = λ t. closed_still c.args.at c.args.end.answers now.ends.items left.ends.items c.settle_child.ensures.hands (c.loop-work.invariant.front t);
      taken = taken_next c.loop-work.index c.args.at c.args.script works c.in-Some.work now.ends.items left.ends.items (logged now.book) (logged left.book) before listed
          (rest_first works c.loop-work.index rest c.next.new.self.rest.items c.in-Some.work c.loop-work.invariant.rest step) settles c.settle_child.ensures.listed c.in_ok-settle_child.ensures.taken c.loop-work.invariant.taken;
    }

pub returns-clause-taken : goal.returns-clause-taken
returns-clause-taken g c =
    let size = c.loop-work.invariant.count in
    let all : c.loop-work.index ≡ length c.args.end.works.items = omega (arith, c.loop-work.work-iterator.rest.ok.0, c.in-None.ensures.steps.0, size) in
    taken_all c.loop-work.index c.args.at c.args.script c.args.end.works.items c.loop-work.desk.ends.items c.loop-work.settled.unsettled.items all c.loop-work.invariant.taken

pub returns-clause-closed : goal.returns-clause-closed
returns-clause-closed g c index lt apart =
    let size = c.loop-work.invariant.count in
    let all : c.loop-work.index ≡ length c.args.end.works.items = omega (arith, c.loop-work.work-iterator.rest.ok.0, c.in-None.ensures.steps.0, size) in
    c.loop-work.invariant.front (c.loop-work.invariant.closed index (omega (arith, lt, all)) apart)
