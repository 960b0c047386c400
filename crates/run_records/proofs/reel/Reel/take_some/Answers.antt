use Rattle.std.proofs.Common.{sym, ap, subst, ◌∙◌}
use Rattle.feed_rings.specs.Ends.{taken_items, SameOut}
use Rattle.run_records.proofs.Parting.{then_out, takes_one, takes_then}
use Rattle.run_records.proofs.reel.Reel.take_some.Goals as goal

pub loop-turn-preserved : goal.loop-turn-preserved
loop-turn-preserved c =
    let was = c.loop-turn.self in
    let new = c.hold.new.self in
    let out = c.in_ok-hold.ensures.out in
    record {
      ring = then_out c.args.self.now.out was.out new.out c.loop-turn.invariant.ring (subst (λ o. SameOut was.out o) (sym out) c.in-Some.ensures.ring);
      takes = takes_then _ was new c.loop-turn.invariant.takes (takes_one was new c.in-Some.item (ap taken_items out ∙ c.in-Some.ensures.some.0) c.in_ok-hold.ensures.held c.in_ok-hold.ensures.since);
    }
