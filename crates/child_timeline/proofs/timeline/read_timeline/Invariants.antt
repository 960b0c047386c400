use Rattle.std.proofs.Common.{◌≡◌, ◌+◌, ◌≤◌, length}
use Rattle.child_events.specs.Reading.{parts}
use Rattle.tcl_words.specs.Bytes.{newline}
use Rattle.child_timeline.specs.Timeline.{with_lines, timeline_of}
use Rattle.child_timeline.proofs.Telling.{IsKept}
use Rattle.child_timeline.proofs.timeline.read_timeline.Given as goal

-- what is left makes of the timeline so far that of the text
abbrev pub invariant-lines : goal.invariant-lines
invariant-lines l = record {
  same : with_lines l.number l.timeline (parts newline l.rest) ≡ timeline_of l.text;
  kept : IsKept l.timeline;
  counted : l.number + length l.rest ≤ length l.text + 1;
}

abbrev pub decreases-lines : goal.decreases-lines
decreases-lines l = length l.rest
