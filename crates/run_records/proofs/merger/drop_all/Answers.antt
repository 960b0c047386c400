use Rattle.std.proofs.Common.{get_or}
use Rattle.run_records.proofs.Parting.{ring_at, rings_same, rings_put}
use Rattle.run_records.proofs.merger.drop_all.Goals as goal

pub loop-at-init : goal.loop-at-init
loop-at-init c = rings_same c.args.reels.now

pub loop-at-preserved : goal.loop-at-preserved
loop-at-preserved c =
    let news = c.loop-at.reels in
    let d = c.index-reels-at.result in
    let at = ring_at c.args.reels.now news c.loop-at.at d c.loop-at.invariant c.loop-at-test.true in
    rings_put c.args.reels.now news c.loop-at.at (get_or news c.loop-at.at d) c.drop_some.new.self at c.drop_some.ensures.ring c.loop-at.invariant
