use Rattle.std.proofs.Common.{◌≡◌, [], refl, sym, ◌∙◌, append-nil, Some}
use Rattle.std.specs.List.{slice_get}
use Rattle.std.proofs.lemmas.Option.{slice_get_read}
use Rattle.feed_rings.specs.Ends.{taken_items}
use Rattle.child_desk.proofs.Hears.{takes_read}
use Rattle.child_desk.proofs.readers.Readers.seems_empty.Goals as goal

pub returns-in-Some : goal.returns-in-Some
returns-in-Some g c =
    let outs = c.args.self.now.outs in
    let out = c.in-Some.out.now in
    let here : slice_get outs.items c.from.result ≡ Some out = slice_get_read outs.items outs.len c.from.result out outs.ok.0 (c.in-Some.ensures.variant.0 refl) c.in-Some.ensures.value in
    takes_read c.args.index c.from.result c.args.self.now _ out c.is_empty.new.self [] c.from.ensures here refl refl c.is_empty.ensures.ring (c.is_empty.ensures.taken ∙ sym (append-nil (taken_items out)))
