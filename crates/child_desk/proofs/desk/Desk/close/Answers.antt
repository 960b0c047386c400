use Rattle.std.proofs.Common.{◌≡◌, ◌+◌, refl, sym, subst, ◌∙◌, Some}
use Rattle.std.specs.List.{slice_get}
use Rattle.std.proofs.lemmas.Option.{slice_get_read}
use Rattle.feed_rings.specs.Ends.{taken_items, all_put}
use Rattle.child_desk.specs.Book.{logged}
use Rattle.child_desk.specs.Line.{IsFrontOf}
use Rattle.child_desk.proofs.Places.{one_there, none_past, set_here, set_there}
use Rattle.child_desk.proofs.Kept.{no_hand_set}
use Rattle.child_desk.proofs.Hears.{all_same, all_set, hears_silent}
use Rattle.child_desk.proofs.desk.Desk.close.Goals as goal

pub close-requires-clause-finished : goal.close-requires-clause-finished
close-requires-clause-finished g c κs within =
    let ends = c.args.self.now.ends in
    let e = c.in-Some.ends.now in
    c.requires e (slice_get_read ends.items ends.len c.args.at e ends.ok.0 (c.in-Some.ensures.variant.0 refl) c.in-Some.ensures.value)

pub returns-in-Some-clause-heard : goal.returns-in-Some-clause-heard
returns-in-Some-clause-heard g c =
    let ends = c.args.self.now.ends in
    let e = c.in-Some.ends.now in
    let log = (logged c.args.self.now.book) in
    let here : slice_get ends.items c.args.at ≡ Some e = slice_get_read ends.items ends.len c.args.at e ends.ok.0 (c.in-Some.ensures.variant.0 refl) c.in-Some.ensures.value in
    all_set c.args.at ends.items e c.close.new.self log log here (hears_silent (c.args.at + 1) e.readers c.close.new.self.readers log log c.close.ensures.readers (λ s k. refl))

pub returns-in-Some-clause-hands : goal.returns-in-Some-clause-hands
returns-in-Some-clause-hands g c =
    let ends = c.args.self.now.ends in
    let e = c.in-Some.ends.now in
    let here : slice_get ends.items c.args.at ≡ Some e = slice_get_read ends.items ends.len c.args.at e ends.ok.0 (c.in-Some.ensures.variant.0 refl) c.in-Some.ensures.value in
    no_hand_set c.args.at ends.items e c.close.new.self here c.close.ensures.ring c.close.ensures.taken c.close.ensures.asked

pub returns-in-Some-clause-others : goal.returns-in-Some-clause-others
returns-in-Some-clause-others g c = λ i other. set_there c.args.at i c.args.self.now.ends.items c.close.new.self other

pub returns-in-Some-clause-front : goal.returns-in-Some-clause-front
returns-in-Some-clause-front g c = λ x got.
    let ends = c.args.self.now.ends in
    let e = c.in-Some.ends.now in
    let here : slice_get ends.items c.args.at ≡ Some e = slice_get_read ends.items ends.len c.args.at e ends.ok.0 (c.in-Some.ensures.variant.0 refl) c.in-Some.ensures.value in
    subst (λ y. IsFrontOf (taken_items y.answers) (all_put c.args.finished)) (one_there c.close.new.self x (sym (set_here c.args.at ends.items e c.close.new.self here) ∙ got)) c.close.ensures.front

pub returns-in_default-clause-heard : goal.returns-in_default-clause-heard
returns-in_default-clause-heard g c = all_same c.args.self.now.ends.items (logged c.args.self.now.book)

pub returns-in_default-clause-front : goal.returns-in_default-clause-front
returns-in_default-clause-front g c = λ e got.
    let ends = c.args.self.now.ends in
    absurd (none_past c.args.at c.args.at ends.len ends.items e refl ends.ok.0 (λ lt. (let no = c.in_default.ensures.variant.1 lt in cc)) got)
