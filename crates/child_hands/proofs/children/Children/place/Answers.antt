use Rattle.std.proofs.Common.{◌≡◌, ◌<◌, ◌∙◌, ℕ, arith, rules, length, Some, ap, subst, vec_len, refl}
use Rattle.std.specs.List.{slice_get}
use Rattle.std.proofs.lemmas.Option.{slice_get_within}
use Rattle.child_hands.proofs.Works.{works_without, works_read, works_placed, puts_again}
use Rattle.child_hands.proofs.children.Children.place.Goals as goal

pub returns-in_default-clause-works : goal.returns-in_default-clause-works
returns-in_default-clause-works g c =
    works_without c.args.script c.args.child (g.K.Out.Read.remaining c.args.out) c.args.self.now.works.items c.args.self.now.readers.items
    (λ i work here number fresh is. c.in_default.ensures (omega (arith, c.from.ensures)))

pub returns-then-index-len-clause-works : goal.returns-then-index-len-clause-works
returns-then-index-len-clause-works g c =
    let some = c.in-Some.ensures in
    let works = c.args.self.now.works.items in
    let size : vec_len c.args.self.now.works ≡ length works = search rules in
    works_without c.args.script c.args.child (g.K.Out.Read.remaining c.args.out) works c.args.self.now.readers.items
    (λ i work here number fresh is.
    let within : i < length works = slice_get_within works i work here in
    omega (arith, c.from.ensures, some.0, some.1, size, c.len.ensures, c.if-index-len.true))

pub returns-in_default-take_place-clause-works : goal.returns-in_default-take_place-clause-works
returns-in_default-take_place-clause-works g c =
    let some = c.in-Some.ensures in
    let kept = c.in_default-take_place.ensures in
    let works = c.args.self.now.works.items in
    let index = c.in-Some.index in
    rw (kept.works.0, kept.readers)
    (works_without c.args.script c.args.child (g.K.Out.Read.remaining c.args.out) works c.args.self.now.readers.items
    (λ i work here number fresh is.
    let same : i ≡ index = omega (arith, c.from.ensures, some.0, some.1) in
    let P = λ (k : ℕ). slice_get works k ≡ Some work in
    kept.works.1 fresh (subst P same here ∙ ap Some is)))

pub returns-then-is_err-clause-works : goal.returns-then-is_err-clause-works
returns-then-is_err-clause-works g c =
    let some = c.in-Some.ensures in
    let took = c.in-Some-take_place.ensures in
    rw (c.keep.ensures.readers, c.reserve.ensures.items, took.readers)
    (works_read c.args.script c.args.child c.in-Some.index (g.K.Out.Read.remaining c.args.out) c.args.self.now.works.items _ c.args.self.now.readers.items
    c.in-Some-take_place.fresh c.give_up.result (omega (arith, c.from.ensures, some.0, some.1)) took.works.0 (puts_again _ _ _ _ _ _ took.works.1 c.keep.ensures.works) (c.give_up.ensures _))

pub returns-in-Running-clause-works : goal.returns-in-Running-clause-works
returns-in-Running-clause-works g c =
    let some = c.in-Some.ensures in
    let took = c.in-Some-take_place.ensures in
    rw (c.push_reserved.ensures.items, c.reserve.ensures.items, took.readers)
    (works_placed c.args.script c.args.child c.in-Some.index c.args.self.now.works.items c.take_place.new.self.works.items c.args.self.now.readers.items
    c.in-Some-take_place.fresh c.args.out (record { index = c.in-Some.index; handle = c.in-Running.handle }) (omega (arith, c.from.ensures, some.0, some.1)) took.works refl c.in-Running.ensures)

pub returns-in-Refused-clause-works : goal.returns-in-Refused-clause-works
returns-in-Refused-clause-works g c =
    let some = c.in-Some.ensures in
    let took = c.in-Some-take_place.ensures in
    rw (c.keep-in-Refused.ensures.readers, c.reserve.ensures.items, took.readers)
    (works_read c.args.script c.args.child c.in-Some.index (g.K.Out.Read.remaining c.args.out) c.args.self.now.works.items _ c.args.self.now.readers.items
    c.in-Some-take_place.fresh c.in-Refused.finished (omega (arith, c.from.ensures, some.0, some.1)) took.works.0 (puts_again _ _ _ _ _ _ took.works.1 c.keep-in-Refused.ensures.works) c.in-Refused.ensures)
