use Rattle.std.proofs.Common.{◌≡◌, ◌-◌, ◌≤◌, ◌++◌, replicate, length}
use Rattle.tcl_words.specs.Bytes.{digit_0}
use Rattle.child_timeline.proofs.seconds.padded.Given as goal

abbrev pub invariant-loop : goal.invariant-loop
invariant-loop l = record {
  same : l.text ≡ l.digits ++ replicate (l.counter - length l.digits) digit_0;
  low : length l.digits ≤ l.counter;
}
