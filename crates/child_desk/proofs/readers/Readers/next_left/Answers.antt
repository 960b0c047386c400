use Rattle.std.proofs.Common.{◌≡◌, ℕ, [], ◌∷◌, refl, subst, Some}
use Rattle.std.specs.List.{slice_get}
use Rattle.std.proofs.lemmas.Option.{slice_get_read}
use Rattle.child_desk.proofs.Places.{none_past}
use Rattle.child_desk.proofs.Hears.{takes_none, takes_read, one_taken, one_less}
use Rattle.child_desk.proofs.readers.Readers.next_left.Goals as goal

pub take_seen-requires : goal.take_seen-requires
take_seen-requires g c =
    let outs = c.args.self.now.outs in
    let out = c.in-Some.out.now in
    let here : slice_get outs.items c.from.result ≡ Some out = slice_get_read outs.items outs.len c.from.result out outs.ok.0 (c.in-Some.ensures.variant.0 refl) c.in-Some.ensures.value in
    c.requires.seen out (subst (λ (k : ℕ). slice_get outs.items k ≡ Some out) c.from.ensures here)

pub returns-in-Some-clause-taken : goal.returns-in-Some-clause-taken
returns-in-Some-clause-taken g c =
    let outs = c.args.self.now.outs in
    let out = c.in-Some.out.now in
    let here : slice_get outs.items c.from.result ≡ Some out = slice_get_read outs.items outs.len c.from.result out outs.ok.0 (c.in-Some.ensures.variant.0 refl) c.in-Some.ensures.value in
    let takes = takes_read c.args.index c.from.result c.args.self.now _ out c.take_seen.new.self (c.take_seen.result ∷ []) c.from.ensures here refl refl c.take_seen.ensures.ring c.take_seen.ensures.taken in
    one_taken c.args.index c.args.self.now _ c.take_seen.result c.taken_of.result takes c.taken_of.ensures

pub returns-in-Some-clause-left : goal.returns-in-Some-clause-left
returns-in-Some-clause-left g c = λ finished n left.
    let outs = c.args.self.now.outs in
    let out = c.in-Some.out.now in
    let here : slice_get outs.items c.from.result ≡ Some out = slice_get_read outs.items outs.len c.from.result out outs.ok.0 (c.in-Some.ensures.variant.0 refl) c.in-Some.ensures.value in
    one_less c.args.index c.from.result n c.take_seen.result _ outs.items out c.take_seen.new.self c.from.ensures here c.take_seen.ensures.taken c.take_seen.ensures.seen left

pub returns-in-None-clause-taken : goal.returns-in-None-clause-taken
returns-in-None-clause-taken g c = ([], takes_none c.args.index c.args.self.now, refl)

pub returns-in-None-clause-left : goal.returns-in-None-clause-left
returns-in-None-clause-left g c = λ finished n left out got.
    let outs = c.args.self.now.outs in
    absurd (none_past c.args.index c.from.result outs.len outs.items out c.from.ensures outs.ok.0 (λ lt. (let no = c.in-None.ensures.variant.1 lt in cc)) got)
