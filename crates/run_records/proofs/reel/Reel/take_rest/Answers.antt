use Rattle.std.proofs.Common.{◌++◌, ◌∷◌, [], length, sym, ap, subst, ◌∙◌, append_assoc, arith}
use Rattle.feed_rings.specs.Ends.{taken_items, seen_items, SameOut}
use Rattle.run_records.proofs.Parting.{then_out, takes_one, takes_then}
use Rattle.run_records.proofs.reel.Reel.take_rest.Goals as goal

pub loop-preserved : goal.loop-preserved
loop-preserved c =
    let was = c.loop.self in
    let new = c.hold.new.self in
    let out = c.in_ok-hold.ensures.out in
    let taken = ap taken_items out ∙ c.take_seen-item.ensures.taken in
    let seen = c.take_seen-item.ensures.seen ∙ ap (λ o. c.take_seen-item.result ∷ seen_items o) (sym out) in
    record {
      ring = then_out c.args.self.now.out was.out new.out c.loop.invariant.ring (subst (λ o. SameOut was.out o) (sym out) c.take_seen-item.ensures.ring);
      takes = takes_then _ was new c.loop.invariant.takes (takes_one was new c.take_seen-item.result taken c.in_ok-hold.ensures.held c.in_ok-hold.ensures.since);
      left = ap (λ xs. xs ++ seen_items new.out) taken ∙ append_assoc (taken_items was.out) (c.take_seen-item.result ∷ []) (seen_items new.out) ∙ ap (λ xs. taken_items was.out ++ xs) (sym seen) ∙ c.loop.invariant.left;
      count = let n = ap length seen in omega (arith, n, c.loop.invariant.count);
    }
