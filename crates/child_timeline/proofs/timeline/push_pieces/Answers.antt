use Rattle.std.proofs.Common.{◌-◌, ◌/◌, ◌<◌, length, arith}
use Rattle.child_timeline.proofs.Cutting.{piece_on, long_on}
use Rattle.child_timeline.proofs.timeline.push_pieces.Goals as goal

pub loop-preserved : goal.loop-preserved
loop-preserved c =
    let lt : c.loop.counter < (length c.args.bytes.now - 1) / 4096 = omega (arith, c.loop-test.true, c.saturating_sub-end.ensures) in
    record {
      same = piece_on c.args.child c.args.moment ((length c.args.bytes.now - 1) / 4096) c.loop.counter _ c.loop.rest.now c.split_piece.result.1.now c.loop.events c.push_piece.new.events _ lt c.split_piece.ensures.piece c.split_piece.ensures.rest c.in_ok-push_piece.ensures c.loop.invariant.same;
      long = long_on (length c.args.bytes.now) c.loop.counter c.loop.rest.now c.split_piece.result.1.now lt c.split_piece.ensures.rest c.loop.invariant.long;
    }
