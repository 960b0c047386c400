use Rattle.std.proofs.Common.{length, ap, arith}
use Rattle.run_records.proofs.Parting.{moves_one}
use Rattle.run_records.proofs.reel.Reel.move_before.Goals as goal

pub loop-preserved : goal.loop-preserved
loop-preserved c =
    let e = c.in-Some.ensures in
    record {
      moves = moves_one _ _ _ _ c.loop.self c.next_before.new.self _ c.loop.all _ c.in-Some.event c.renumbered.result c.loop.invariant.moves e.0 e.1 e.2 e.3 (λ good. c.renumbered.ensures good.0) c.in_ok-push.ensures.pushed;
      count = let n = ap length e.1 in omega (arith, n, c.loop.invariant.count);
    }
