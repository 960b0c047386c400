use Rattle.std.proofs.Common.{◌+◌, ◌≤◌, length}
use Rattle.child_events.proofs.Judged.{JudgedTo}
use Rattle.child_events.proofs.judging.judge_lines.Given as goal

-- so many lines so far, and those that are left
abbrev pub invariant-lines : goal.invariant-lines
invariant-lines l = record {
  to : JudgedTo l.version l.first l.bytes l.rest l.number l.seen;
  counted : l.number + length l.rest ≤ l.first + length l.bytes;
  few : l.seen + length l.rest ≤ length l.bytes;
}

abbrev pub decreases-lines : goal.decreases-lines
decreases-lines l = length l.rest
