use Rattle.std.proofs.Common.{◌≡◌, ◌+◌, ◌≤◌, length}
use Rattle.child_events.specs.Reading.{parts}
use Rattle.tcl_words.specs.Bytes.{newline}
use Rattle.child_timeline.specs.Typescript.{with_timings, unwound}
use Rattle.child_timeline.proofs.Taping.{IsWound}
use Rattle.child_timeline.proofs.typescript.timed_by.Given as goal

-- what is left makes of the tape so far that of the timing
abbrev pub invariant-lines : goal.invariant-lines
invariant-lines l = record {
  same : with_timings l.number l.body l.tape (parts newline l.rest) ≡ with_timings 1 l.body unwound (parts newline l.timing);
  wound : IsWound l.body l.tape;
  counted : l.number + length l.rest ≤ length l.timing + 1;
}

abbrev pub decreases-lines : goal.decreases-lines
decreases-lines l = length l.rest
