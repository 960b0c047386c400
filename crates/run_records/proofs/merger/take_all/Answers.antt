use Rattle.std.proofs.Common.{get_or}
use Rattle.run_records.proofs.Parting.{ring_at, rings_same, rings_put, take_same, take_put}
use Rattle.run_records.proofs.merger.take_all.Goals as goal

pub loop-at-init : goal.loop-at-init
loop-at-init c = record { rings = rings_same c.args.reels.now; takes = take_same c.args.reels.now }

pub returns-in_err-take_some-clause-rings : goal.returns-in_err-take_some-clause-rings
returns-in_err-take_some-clause-rings c =
    let news = c.loop-at.reels in
    let d = c.index-reels-at.result in
    let at = ring_at c.args.reels.now news c.loop-at.at d c.loop-at.invariant.rings c.loop-at-test.true in
    rings_put c.args.reels.now news c.loop-at.at (get_or news c.loop-at.at d) c.take_some.new.self at c.take_some.ensures.ring c.loop-at.invariant.rings

pub loop-at-preserved : goal.loop-at-preserved
loop-at-preserved c =
    let news = c.loop-at.reels in
    let d = c.index-reels-at.result in
    let at = ring_at c.args.reels.now news c.loop-at.at d c.loop-at.invariant.rings c.loop-at-test.true in
    record {
      rings = rings_put c.args.reels.now news c.loop-at.at (get_or news c.loop-at.at d) c.take_some.new.self at c.take_some.ensures.ring c.loop-at.invariant.rings;
      takes = take_put c.args.reels.now news c.loop-at.at (get_or news c.loop-at.at d) c.take_some.new.self at c.in_ok-take_some.ensures.takes c.loop-at.invariant.takes;
    }
