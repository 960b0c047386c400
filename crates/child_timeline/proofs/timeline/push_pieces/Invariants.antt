use Rattle.std.proofs.Common.{◌≡◌, ◌+◌, ◌-◌, ◌*◌, ◌/◌, ◌++◌, length}
use Rattle.std.specs.Prelude.{map}
use Rattle.child_timeline.specs.Timeline.{pieces, pieces_and_rest, written}
use Rattle.child_timeline.proofs.timeline.push_pieces.Given as goal

abbrev pub invariant-loop : goal.invariant-loop
invariant-loop l = record {
  same : l.events ++ map (written l.child l.moment) (pieces_and_rest ((length l.bytes - 1) / 4096 - l.counter) l.rest) ≡ l.fn.events ++ map (written l.child l.moment) (pieces l.bytes);
  long : length l.rest + 4096 * l.counter ≡ length l.bytes;
}
