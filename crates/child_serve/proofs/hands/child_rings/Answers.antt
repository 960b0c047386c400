use Rattle.child_serve.proofs.Opening.{one_ring}
use Rattle.child_serve.proofs.hands.child_rings.Goals as goal

pub loop-preserved : goal.loop-preserved
loop-preserved g c =
    let fresh = c.new-in-loop.result in
    one_ring c.loop.counter c.loop.works.items c.push.new.self.items c.loop.outs.items c.push-in-loop.new.self.items fresh c.in_ok-feed.out c.in_ok-push.ensures.items c.in_ok-push-2.ensures.items
    (rw c.new-in-loop.ensures c.in_ok-feed.ensures.pair) c.in_ok-feed.ensures.empty.1 c.loop.invariant
