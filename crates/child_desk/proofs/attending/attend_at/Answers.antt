use Rattle.child_desk.specs.Book.{logged}
use Rattle.std.proofs.lemmas.Option.{slice_get_read}
use Rattle.std.proofs.lemmas.Result.{on_ok_weaker}
use Rattle.std.proofs.Common.{refl}
use Rattle.child_desk.proofs.Places.{none_past}
use Rattle.child_desk.proofs.Kept.{all_kept, all_same as kept_same}
use Rattle.child_desk.proofs.Coming.{comes_all, elsewhere_set, elsewhere_same, hand_in, none_in, asked_in, not_asked_in}
use Rattle.child_desk.proofs.Hears.{all_same, all_set}
use Rattle.child_desk.proofs.attending.attend_at.Goals as goal

pub returns-clause-kept : goal.returns-clause-kept
returns-clause-kept g c =
    let ends = c.args.ends.now in
    let e = c.in-Some.ends.now in
    all_kept c.args.at c.args.lines.now.items ends.items c.index_mut-line.result.now c.attend.new.line e c.attend.new.ends c.args.book.now c.attend.new.book
    (slice_get_read c.args.lines.now.items c.args.lines.now.len c.args.at c.index_mut-line.result.now c.args.lines.now.ok.0 c.requires.place c.index_mut-line.ensures.value)
    (slice_get_read ends.items ends.len c.args.at e ends.ok.0 (c.in-Some.ensures.variant.0 refl) c.in-Some.ensures.value) c.attend.ensures.ring c.attend.ensures.kept

pub returns-clause-heard : goal.returns-clause-heard
returns-clause-heard g c =
    let ends = c.args.ends.now in
    let e = c.in-Some.ends.now in
    all_set c.args.at ends.items e c.attend.new.ends (logged c.args.book.now) (logged c.attend.new.book)
    (slice_get_read ends.items ends.len c.args.at e ends.ok.0 (c.in-Some.ensures.variant.0 refl) c.in-Some.ensures.value) c.attend.ensures.heard

pub returns-clause-elsewhere : goal.returns-clause-elsewhere
returns-clause-elsewhere g c = elsewhere_set c.args.at c.args.lines.now.items c.args.ends.now.items c.attend.new.line c.attend.new.ends

pub returns-clause-entered : goal.returns-clause-entered
returns-clause-entered g c =
    let ends = c.args.ends.now in
    let e = c.in-Some.ends.now in
    hand_in c.args.at c.args.lines.now.items ends.items c.index_mut-line.result.now e c.attend.new.ends c.args.book.now c.attend.new.book
    (slice_get_read c.args.lines.now.items c.args.lines.now.len c.args.at c.index_mut-line.result.now c.args.lines.now.ok.0 c.requires.place c.index_mut-line.ensures.value)
    (slice_get_read ends.items ends.len c.args.at e ends.ok.0 (c.in-Some.ensures.variant.0 refl) c.in-Some.ensures.value) c.attend.ensures.entered

pub returns-clause-asked : goal.returns-clause-asked
returns-clause-asked g c =
    let ends = c.args.ends.now in
    let e = c.in-Some.ends.now in
    on_ok_weaker c.attend.result
    (asked_in c.args.at c.args.lines.now.items ends.items c.index_mut-line.result.now c.attend.new.line e c.attend.new.ends c.attend.new.book
    (slice_get_read c.args.lines.now.items c.args.lines.now.len c.args.at c.index_mut-line.result.now c.args.lines.now.ok.0 c.requires.place c.index_mut-line.ensures.value)
    (slice_get_read ends.items ends.len c.args.at e ends.ok.0 (c.in-Some.ensures.variant.0 refl) c.in-Some.ensures.value)) c.attend.ensures.asked

pub returns-in_default-clause-heard : goal.returns-in_default-clause-heard
returns-in_default-clause-heard g c = all_same c.args.ends.now.items (logged c.args.book.now)

pub returns-in_default-clause-kept : goal.returns-in_default-clause-kept
returns-in_default-clause-kept g c = kept_same c.args.lines.now.items c.args.ends.now.items c.args.book.now

pub returns-in_default-clause-comes : goal.returns-in_default-clause-comes
returns-in_default-clause-comes g c = comes_all c.args.at c.args.book.now

pub returns-in_default-clause-elsewhere : goal.returns-in_default-clause-elsewhere
returns-in_default-clause-elsewhere g c = elsewhere_same c.args.at c.args.lines.now.items c.args.ends.now.items

pub returns-in_default-clause-entered : goal.returns-in_default-clause-entered
returns-in_default-clause-entered g c = none_in c.args.at c.args.lines.now.items c.args.ends.now.items c.args.book.now

pub returns-in_default-clause-asked : goal.returns-in_default-clause-asked
returns-in_default-clause-asked g c =
    let ends = c.args.ends.now in
    not_asked_in c.args.at c.args.lines.now.items ends.items c.args.book.now (λ e got. none_past c.args.at c.args.at ends.len ends.items e refl ends.ok.0 (λ lt. (let no = c.in_default.ensures.variant.1 lt in cc)) got)
