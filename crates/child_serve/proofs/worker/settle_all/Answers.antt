use Rattle.child_desk.specs.Book.{logged}
use Rattle.std.proofs.Common.{◌≡◌, ℕ, ◌+◌, length, refl, sym, ap, subst, ◌∙◌, arith}
use Rattle.child_desk.proofs.Hears.{all_same, all_then}
use Rattle.child_desk.proofs.Kept.{leaves_all, leaves_then, no_hand_same, no_hand_then, same_rings}
use Rattle.run_records.specs.Joined.{script_of}
use Rattle.child_desk.specs.Line.{HearsNoHand}
use Rattle.child_serve.specs.Opened.{AreTakenIn, AreClosedIn, AreSettled}
use Rattle.child_serve.proofs.Rounding.{heard_left}
use Rattle.child_serve.proofs.Opening.{rest_whole, rest_first, rest_next}
use Rattle.child_serve.proofs.Settling.{linked_still, left_of, end_of, settled_of, settled_next, settled_all}
use Rattle.child_serve.proofs.worker.settle_all.Goals as goal

pub loop-hand-init : goal.loop-hand-init
loop-hand-init g c =
    let all = c.into_iter-hand-iterator.ensures.into_iter_gives.0 in
    let size = ap length all in
    let was = c.args.desk.now in
    record {
      rest = rest_whole c.args.hands.items c.into_iter-hand-iterator.result.rest.items all;
      count = omega (arith, size);
      lines = refl;
      book = leaves_all was.book;
      heard = all_same was.ends.items (logged was.book);
      hands = no_hand_same was.ends.items;
      settled = λ at hand lt got. absurd (omega (arith, lt));
    }

pub settle_script-requires-clause-place : goal.settle_script-requires-clause-place
settle_script-requires-clause-place g c κs within =
    let hands = c.args.hands.items in
    let step = c.in-Some.ensures.steps.0 in
    let less = ap length step in
    let size = c.loop-hand.invariant.count in
    let halls = c.loop-hand.invariant.book.halls in
    let few = c.requires.few in
    let mine = rest_first hands c.loop-hand.at c.loop-hand.hand-iterator.rest.items c.next.new.self.rest.items c.in-Some.hand c.loop-hand.invariant.rest step in
    let works = c.join-end.ensures.size in
    let count = (c.requires.linked c.loop-hand.at c.in-Some.hand mine).2.count in
    (omega (arith, less, size, halls, few.0), omega (arith, less, size, few.1), omega (arith, works, count))

pub settle_script-requires-clause-left : goal.settle_script-requires-clause-left
settle_script-requires-clause-left g c κs within =
    let was = c.args.desk.now in
    let now = c.loop-hand.desk in
    let hands = c.args.hands.items in
    let mine = rest_first hands c.loop-hand.at c.loop-hand.hand-iterator.rest.items c.next.new.self.rest.items c.in-Some.hand c.loop-hand.invariant.rest c.in-Some.ensures.steps.0 in
    left_of c.loop-hand.at c.in-Some.hand c.join-end.result hands now.ends.items
    (linked_still hands was.ends.items now.ends.items (logged was.book) (logged now.book) c.loop-hand.invariant.heard (same_rings was.ends.items now.ends.items c.loop-hand.invariant.hands) c.requires.linked) mine c.join-end.ensures

pub settle_script-requires-clause-answers : goal.settle_script-requires-clause-answers
settle_script-requires-clause-answers g c κs within =
    let was = c.args.desk.now in
    let now = c.loop-hand.desk in
    let hands = c.args.hands.items in
    let mine = rest_first hands c.loop-hand.at c.loop-hand.hand-iterator.rest.items c.next.new.self.rest.items c.in-Some.hand c.loop-hand.invariant.rest c.in-Some.ensures.steps.0 in
    end_of c.loop-hand.at c.in-Some.hand c.join-end.result hands now.ends.items
    (linked_still hands was.ends.items now.ends.items (logged was.book) (logged now.book) c.loop-hand.invariant.heard (same_rings was.ends.items now.ends.items c.loop-hand.invariant.hands) c.requires.linked) mine c.join-end.ensures

pub returns-in_err-settle_script-clause-hands : goal.returns-in_err-settle_script-clause-hands
returns-in_err-settle_script-clause-hands g c =
    no_hand_then c.args.desk.now.ends.items c.loop-hand.desk.ends.items c.settle_script.new.desk.ends.items c.loop-hand.invariant.hands c.settle_script.ensures.hands

pub returns-in_err-settle_script-clause-heard : goal.returns-in_err-settle_script-clause-heard
returns-in_err-settle_script-clause-heard g c =
    let was = c.args.desk.now in
    let now = c.loop-hand.desk in
    let left = c.settle_script.new.desk in
    all_then was.ends.items now.ends.items left.ends.items (logged was.book) (logged now.book) (logged left.book) c.loop-hand.invariant.heard c.settle_script.ensures.heard

pub loop-hand-preserved : goal.loop-hand-preserved
loop-hand-preserved g c =
    let workers = c.args.place.workers in
    let worker = c.args.place.worker in
    let hands = c.args.hands.items in
    let at = c.loop-hand.at in
    let hand = c.in-Some.hand in
    let end = c.join-end.result in
    let rest = c.loop-hand.hand-iterator.rest.items in
    let step = c.in-Some.ensures.steps.0 in
    let less = ap length step in
    let size = c.loop-hand.invariant.count in
    let was = c.args.desk.now in
    let now = c.loop-hand.desk in
    let left = c.settle_script.new.desk in
    let listed = c.settle_script.new.settled.unsettled.items in
    let mine = rest_first hands at rest c.next.new.self.rest.items hand c.loop-hand.invariant.rest step in
    let taken = subst (λ (n : ℕ). AreTakenIn at n end.works.items left.ends.items listed) c.number_of-number.ensures c.in_ok-settle_script.ensures.taken in
    let closed = subst (λ (n : ℕ). AreClosedIn at n end.answers (length end.works.items) left.ends.items listed) c.number_of-number.ensures c.in_ok-settle_script.ensures.closed in
    record {
      rest = rest_next hands at rest c.next.new.self.rest.items hand c.loop-hand.invariant.rest step;
      count = omega (arith, size, less);
      lines = c.settle_script.ensures.lines ∙ c.loop-hand.invariant.lines;
      book = leaves_then was.book now.book left.book c.loop-hand.invariant.book c.settle_script.ensures.book;
      heard = all_then was.ends.items now.ends.items left.ends.items (logged was.book) (logged now.book) (logged left.book) c.loop-hand.invariant.heard c.settle_script.ensures.heard;
      hands = no_hand_then was.ends.items now.ends.items left.ends.items c.loop-hand.invariant.hands c.settle_script.ensures.hands;
      settled = settled_next at workers worker hand hands now.ends.items left.ends.items c.loop-hand.settled.unsettled.items listed mine c.settle_script.ensures.others c.settle_script.ensures.hands c.settle_script.ensures.listed
          (settled_of at (script_of workers worker (at + 1)) hand end hands was.ends.items left.ends.items listed c.requires.linked mine c.join-end.ensures taken closed) c.loop-hand.invariant.settled;
    }

pub returns-clause-lines : goal.returns-clause-lines
returns-clause-lines g c = c.end_record.ensures.lines ∙ c.loop-hand.invariant.lines

pub returns-clause-book : goal.returns-clause-book
returns-clause-book g c = leaves_then c.args.desk.now.book c.loop-hand.desk.book c.end_record.new.desk.book c.loop-hand.invariant.book c.end_record.ensures.book

pub returns-clause-heard : goal.returns-clause-heard
returns-clause-heard g c =
    let was = c.args.desk.now in
    let now = c.loop-hand.desk in
    let left = c.end_record.new.desk in
    all_then was.ends.items now.ends.items left.ends.items (logged was.book) (logged now.book) (logged left.book) c.loop-hand.invariant.heard (heard_left now.ends.items left.ends.items now.book left.book c.end_record.ensures.ends c.end_record.ensures.log)

pub returns-clause-hands : goal.returns-clause-hands
returns-clause-hands g c = subst (HearsNoHand c.args.desk.now.ends.items) (sym c.end_record.ensures.ends) c.loop-hand.invariant.hands

pub returns-clause-settled : goal.returns-clause-settled
returns-clause-settled g c =
    let size = c.loop-hand.invariant.count in
    let all : c.loop-hand.at ≡ length c.args.hands.items = omega (arith, c.loop-hand.hand-iterator.rest.ok.0, c.in-None.ensures.steps.0, size) in
    subst (λ es. AreSettled c.args.place.workers c.args.place.worker c.args.hands.items es c.loop-hand.settled.unsettled.items) (sym c.end_record.ensures.ends)
    (settled_all c.loop-hand.at c.args.place.workers c.args.place.worker c.args.hands.items c.loop-hand.desk.ends.items c.loop-hand.settled.unsettled.items all c.loop-hand.invariant.settled)
