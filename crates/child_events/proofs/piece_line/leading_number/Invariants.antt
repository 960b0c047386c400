use Rattle.std.proofs.Common.{◌≡◌, ◌<◌, ◌^◌, take, Some}
use Rattle.child_events.specs.Reading.{digits_number}
use Rattle.child_events.proofs.piece_line.leading_number.Given as goal

-- the number that the digits so far write
abbrev pub invariant-loop-i : goal.invariant-loop-i
invariant-loop-i l = record {
  so_far : digits_number (take l.i l.bytes) ≡ Some l.number;
  small : l.number < 10 ^ l.i;
}
