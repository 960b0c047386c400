use Rattle.std.proofs.Common.{◌≡◌, ◌≤◌, ◌-◌, take, drop, length}
use Rattle.tcl_words.specs.Lists.{content, with_text}
use Rattle.tcl_words.proofs.lists.plain_len.Given as goal

abbrev pub invariant-loop-at : goal.invariant-loop-at
invariant-loop-at l = (l.at ≤ length l.bytes) × (with_text (take l.at l.bytes) l.at (content l.quoted (drop l.at l.bytes)) ≡ content l.quoted l.bytes)

abbrev pub decreases-loop-at : goal.decreases-loop-at
decreases-loop-at l = length l.bytes - l.at
