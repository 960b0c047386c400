use Rattle.std.proofs.Common.{get_or, ◌∙◌, arith}
use Rattle.run_records.proofs.Rows.{read_at}
use Rattle.run_records.proofs.Parting.{ring_at, rings_same, rings_put, take_same, take_put}
use Rattle.run_records.proofs.Resting.{look_same, look_put, as_many, pair_at, put_at, taken_first, taken_next, taken_last}
use Rattle.run_records.proofs.merger.take_rests.Goals as goal

pub loop-at-init : goal.loop-at-init
loop-at-init c = record {
  rings = rings_same c.args.reels.now;
  takes = take_same c.args.reels.now;
  looks = look_same c.args.logs.now;
  taken = taken_first c.args.logs.now c.args.reels.now c.requires;
}

pub bounds-logs-at : goal.bounds-logs-at
bounds-logs-at c =
    let many = as_many c.args.logs.now c.loop-at.logs c.args.reels.now c.loop-at.reels c.requires c.loop-at.invariant.looks c.loop-at.invariant.rings in
    omega (arith, many.0, c.loop-at-test.true)

pub take_rest-requires : goal.take_rest-requires
take_rest-requires c =
    let was = c.loop-at in
    let many = as_many c.args.logs.now was.logs c.args.reels.now was.reels c.requires was.invariant.looks was.invariant.rings in
    record {
      pair = pair_at c.args.logs.now was.logs c.args.reels.now was.reels c.requires was.invariant.looks was.invariant.rings was.at _ _
          (read_at was.logs was.at c.index-logs-at.result (omega (arith, many.0, c.loop-at-test.true))) (ring_at c.args.reels.now was.reels was.at c.index-reels-at.result was.invariant.rings c.loop-at-test.true);
    }

pub returns-in_err-take_rest-clause-rings : goal.returns-in_err-take_rest-clause-rings
returns-in_err-take_rest-clause-rings c =
    let was = c.loop-at in
    rings_put c.args.reels.now was.reels was.at (get_or was.reels was.at c.index-reels-at.result) c.take_rest.new.self (ring_at c.args.reels.now was.reels was.at c.index-reels-at.result was.invariant.rings c.loop-at-test.true) c.take_rest.ensures.ring was.invariant.rings

pub loop-at-preserved : goal.loop-at-preserved
loop-at-preserved c =
    let was = c.loop-at in
    let many = as_many c.args.logs.now was.logs c.args.reels.now was.reels c.requires was.invariant.looks was.invariant.rings in
    let reel = get_or was.reels was.at c.index-reels-at.result in
    let log = get_or was.logs was.at c.index-logs-at.result in
    let here = ring_at c.args.reels.now was.reels was.at c.index-reels-at.result was.invariant.rings c.loop-at-test.true in
    let there = read_at was.logs was.at c.index-logs-at.result (omega (arith, many.0, c.loop-at-test.true)) in
    record {
      rings = rings_put c.args.reels.now was.reels was.at reel c.take_rest.new.self here c.take_rest.ensures.ring was.invariant.rings;
      takes = take_put c.args.reels.now was.reels was.at reel c.take_rest.new.self here c.in_ok-take_rest.ensures.takes was.invariant.takes;
      looks = look_put c.args.logs.now was.logs was.at log c.take_rest.new.log there c.take_rest.ensures.log was.invariant.looks;
      taken = taken_next was.at c.args.logs.now was.reels reel c.take_rest.new.self here
          (λ l first. c.in_ok-take_rest.ensures.rest ∙ put_at c.args.logs.now was.logs c.args.reels.now was.reels c.requires was.invariant.looks was.invariant.rings was.at log l there first)
          was.invariant.taken;
    }

pub returns-clause-rests : goal.returns-clause-rests
returns-clause-rests c =
    let was = c.loop-at in
    taken_last was.at c.args.logs.now was.reels (let many = as_many c.args.logs.now c.args.logs.now c.args.reels.now was.reels c.requires (look_same c.args.logs.now) was.invariant.rings in omega (arith, many.0, c.loop-at-test.false)) was.invariant.taken
