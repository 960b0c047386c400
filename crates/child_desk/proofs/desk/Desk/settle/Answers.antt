use Rattle.child_desk.specs.Book.{logged}
use Rattle.std.proofs.Common.{◌≡◌, refl, sym, ap, subst, Some}
use Rattle.std.specs.List.{slice_get}
use Rattle.std.proofs.lemmas.Option.{slice_get_read}
use Rattle.std.proofs.lemmas.Result.{IfOk-weaker}
use Rattle.std.specs.Prelude.{IsTrue}
use Rattle.child_desk.specs.Heard.{TakenAt}
use Rattle.feed_rings.specs.Ends.{taken_items, all_put, SameOut}
use Rattle.child_desk.proofs.Places.{none_past}
use Rattle.child_desk.proofs.Kept.{no_hand_same, no_hand_set}
use Rattle.child_desk.proofs.Hears.{taken_in, settles_set, settles_none}
use Rattle.child_desk.proofs.desk.Desk.settle.Goals as goal

pub returns-in-Some-clause-heard : goal.returns-in-Some-clause-heard
returns-in-Some-clause-heard g c =
    let ends = c.args.self.now.ends in
    let e = c.in-Some.ends.now in
    let here : slice_get ends.items c.args.at ≡ Some e = slice_get_read ends.items ends.len c.args.at e ends.ok.0 (c.in-Some.ensures.variant.0 refl) c.in-Some.ensures.value in
    settles_set c.args.at c.args.index ends.items e c.settle_child.new.ends (logged c.args.self.now.book) (logged c.settle_child.new.book) here c.settle_child.ensures.heard

pub returns-in-Some-clause-all : goal.returns-in-Some-clause-all
returns-in-Some-clause-all g c =
    let ends = c.args.self.now.ends in
    let e = c.in-Some.ends.now in
    let here : slice_get ends.items c.args.at ≡ Some e = slice_get_read ends.items ends.len c.args.at e ends.ok.0 (c.in-Some.ensures.variant.0 refl) c.in-Some.ensures.value in
    IfOk-weaker c.settle_child.result (λ all. IsTrue all → TakenAt c.args.index (all_put c.args.finished) c.settle_child.new.ends.readers) _
    (λ all taken is. taken_in c.args.at c.args.index (all_put c.args.finished) ends.items e c.settle_child.new.ends here (taken is)) c.settle_child.ensures.all

pub returns-in-None-clause-heard : goal.returns-in-None-clause-heard
returns-in-None-clause-heard g c =
    let ends = c.args.self.now.ends in
    settles_none c.args.at c.args.index ends.items (logged c.args.self.now.book) (λ e got. none_past c.args.at c.args.at ends.len ends.items e refl ends.ok.0 (λ lt. (let no = c.in-None.ensures.variant.1 lt in cc)) got)

pub returns-in-None-clause-all : goal.returns-in-None-clause-all
returns-in-None-clause-all g c = λ is e got.
    let ends = c.args.self.now.ends in
    absurd (none_past c.args.at c.args.at ends.len ends.items e refl ends.ok.0 (λ lt. (let no = c.in-None.ensures.variant.1 lt in cc)) got)

pub returns-in-Some-clause-hands : goal.returns-in-Some-clause-hands
returns-in-Some-clause-hands g c =
    let ends = c.args.self.now.ends in
    let e = c.in-Some.ends.now in
    let here : slice_get ends.items c.args.at ≡ Some e = slice_get_read ends.items ends.len c.args.at e ends.ok.0 (c.in-Some.ensures.variant.0 refl) c.in-Some.ensures.value in
    no_hand_set c.args.at ends.items e c.settle_child.new.ends here (subst (SameOut e.answers) (sym c.settle_child.ensures.hand.0) (refl, refl, refl, refl)) (ap taken_items c.settle_child.ensures.hand.0) c.settle_child.ensures.hand.1

pub returns-in-None-clause-hands : goal.returns-in-None-clause-hands
returns-in-None-clause-hands g c = no_hand_same c.args.self.now.ends.items
