use Rattle.std.proofs.Common.{◌≡◌, [], refl, sym, ◌∙◌, append-nil, Some}
use Rattle.std.specs.List.{slice_get}
use Rattle.std.proofs.lemmas.Option.{slice_get_read}
use Rattle.feed_rings.specs.Ends.{taken_items}
use Rattle.child_desk.proofs.Places.{none_past}
use Rattle.child_desk.proofs.Hears.{takes_read, left_read}
use Rattle.child_desk.proofs.readers.Readers.left.Goals as goal

pub returns-in-Some-clause-taken : goal.returns-in-Some-clause-taken
returns-in-Some-clause-taken g c =
    let outs = c.args.self.now.outs in
    let out = c.in-Some.out.now in
    let here : slice_get outs.items c.from.result ≡ Some out = slice_get_read outs.items outs.len c.from.result out outs.ok.0 (c.in-Some.ensures.variant.0 refl) c.in-Some.ensures.value in
    takes_read c.args.index c.from.result c.args.self.now _ out c.left.new.self [] c.from.ensures here refl refl c.left.ensures.ring (c.left.ensures.taken ∙ sym (append-nil (taken_items out)))

pub returns-in-Some-clause-left : goal.returns-in-Some-clause-left
returns-in-Some-clause-left g c =
    let outs = c.args.self.now.outs in
    let out = c.in-Some.out.now in
    let here : slice_get outs.items c.from.result ≡ Some out = slice_get_read outs.items outs.len c.from.result out outs.ok.0 (c.in-Some.ensures.variant.0 refl) c.in-Some.ensures.value in
    left_read c.args.index c.from.result c.left.result _ outs.items out c.left.new.self c.from.ensures here (c.left.ensures.all ∙ sym c.left.ensures.finished.1) c.left.ensures.count

pub returns-in-None-clause-left : goal.returns-in-None-clause-left
returns-in-None-clause-left g c = λ out got.
    let outs = c.args.self.now.outs in
    absurd (none_past c.args.index c.from.result outs.len outs.items out c.from.ensures outs.ok.0 (λ lt. (let no = c.in-None.ensures.variant.1 lt in cc)) got)
