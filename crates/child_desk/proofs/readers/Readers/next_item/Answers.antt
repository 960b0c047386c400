use Rattle.std.proofs.Common.{◌≡◌, refl, Some}
use Rattle.std.specs.List.{slice_get}
use Rattle.std.proofs.lemmas.Option.{slice_get_read}
use Rattle.child_desk.proofs.Hears.{takes_some, takes_no}
use Rattle.child_desk.proofs.readers.Readers.next_item.Goals as goal

pub returns-clause-some : goal.returns-clause-some
returns-clause-some g c =
    let outs = c.args.self.now.outs in
    let out = c.in_ok-get_mut.field-0.now in
    let here : slice_get outs.items c.from.result ≡ Some out = slice_get_read outs.items outs.len c.from.result out outs.ok.0 (c.in_ok-get_mut.ensures.variant.0 refl) c.in_ok-get_mut.ensures.value in
    takes_some c.args.index c.from.result c.args.self.now _ out c.take.new.self c.take.result c.from.ensures here refl refl c.take.ensures.ring _ c.take.ensures.some

pub returns-clause-none : goal.returns-clause-none
returns-clause-none g c =
    let outs = c.args.self.now.outs in
    let out = c.in_ok-get_mut.field-0.now in
    let here : slice_get outs.items c.from.result ≡ Some out = slice_get_read outs.items outs.len c.from.result out outs.ok.0 (c.in_ok-get_mut.ensures.variant.0 refl) c.in_ok-get_mut.ensures.value in
    takes_no c.args.index c.from.result c.args.self.now _ out c.take.new.self c.take.result c.from.ensures here refl refl c.take.ensures.ring c.take.ensures.none
