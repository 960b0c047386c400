use Rattle.std.proofs.Common.{rules}
use Rattle.child_hands.proofs.Pumps.{pumps_put}
use Rattle.child_hands.proofs.pump.put_pieces.Goals as goal

pub loop-preserved : goal.loop-preserved
loop-preserved g c = record {
  ring = search rules;
  list = pumps_put _ _ _ _ c.loop.invariant.list c.in-Ok.ensures.bytes.0 c.in-Ok-new.ensures.0 ((c.in-Ok-new.ensures.1, c.in-Ok-new.ensures.2), tt) c.if-not-put_waiting.ensures.put;
  none_failed = search rules;
  calls = search rules;
}
