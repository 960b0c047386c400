use Rattle.std.proofs.Common.{◌≡◌, ◌+◌, ◌≤◌, length}
use Rattle.child_events.specs.Reading.{parts}
use Rattle.tcl_words.specs.Bytes.{newline}
use Rattle.child_timeline.specs.Cast.{with_all, unplayed}
use Rattle.child_timeline.proofs.Casts.{IsPlayed}
use Rattle.child_timeline.proofs.cast.with_events.Given as goal

-- what is left makes of the timeline so far that of all events
abbrev pub invariant-lines : goal.invariant-lines
invariant-lines l = record {
  same : with_all l.number l.on l.reel (parts newline l.rest) ≡ with_all 2 l.on unplayed (parts newline l.text);
  played : IsPlayed l.reel;
  counted : l.number + length l.rest ≤ length l.text + 2;
}

abbrev pub decreases-lines : goal.decreases-lines
decreases-lines l = length l.rest
