use Rattle.std.proofs.Common.{ℕ, length, ap, subst, arith}
use Rattle.child_serve.specs.Opened.{AreListed}
use Rattle.child_serve.proofs.Listing.{all_next}
use Rattle.child_serve.proofs.worker.list_all.Goals as goal

pub loop-hand-preserved : goal.loop-hand-preserved
loop-hand-preserved g c =
    let step = c.in-Some.ensures.steps.0 in
    let less = ap length step in
    let size = c.loop-hand.invariant.count in
    let new = c.list_children.new.settled.unsettled.items in
    record {
      count = omega (arith, less, size);
      listed = all_next c.args.place.workers c.args.place.worker c.loop-hand.at c.loop-hand.settled.unsettled.items new c.loop-hand.invariant.listed c.list_children.ensures.kept
          (subst (λ (k : ℕ). AreListed k new) c.number_of.ensures c.in_ok-list_children.ensures.listed);
    }
