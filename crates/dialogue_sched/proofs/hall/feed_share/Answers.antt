use Rattle.std.proofs.Common.{◌≡◌, List, [], length, refl, sym, ap, subst, arith}
use Rattle.std.proofs.lemmas.Bool.Decides.{nat_tests}
use Rattle.std.proofs.lemmas.List.{nil_from_length}
use Rattle.child_events.specs.declared.event.Event.{Event}
use Rattle.dialogue_sched.specs.Took.{Took}
use Rattle.dialogue_sched.proofs.Taking.{got_at, set_same, took_some}
use Rattle.dialogue_sched.proofs.hall.feed_share.Goals as goal

pub returns-then-is_empty : goal.returns-then-is_empty
returns-then-is_empty c =
    let none : length c.args.events.items ≡ 0 = grind (arith, nat_tests, c.args.events.ok.0, c.is_empty.ensures, c.if-is_empty.true) in
    let got = got_at c.args.i c.args.sessions.now.items (omega (arith, c.requires, c.args.sessions.now.ok.0)) in
    record {
      took = (got.0, got.0, got.1, subst (λ (es : List Event). Took got.0 es got.0) (sym (nil_from_length c.args.events.items none)) refl, set_same c.args.i c.args.sessions.now.items got.0 got.1);
      same = refl;
    }

pub returns-clause-took : goal.returns-clause-took
returns-clause-took c =
    let f = c.feed_all_at.ensures.fed in
    let some : c.args.events.items ≡ [] → ⊥ = λ e. let none : length c.args.events.items ≡ 0 = ap length e in grind (arith, nat_tests, c.args.events.ok.0, c.is_empty.ensures, c.if-is_empty.false) in
    (f.0, f.1, f.2, took_some c.args.events.items f.0 f.1 some f.3, f.4)
