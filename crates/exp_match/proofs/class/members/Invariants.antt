use Rattle.std.proofs.Common.{◌≡◌, ◌-◌, ◌≤◌, length, drop}
use Rattle.tcl_words.specs.Lists.{plus}
use Rattle.exp_match.specs.Scan.{members}
use Rattle.exp_match.proofs.class.members.Given as goal

abbrev pub invariant-loop-at : goal.invariant-loop-at
invariant-loop-at l = (l.at ≤ length l.chars) × (plus l.at (members (drop l.at l.chars)) ≡ members l.chars)

abbrev pub decreases-loop-at : goal.decreases-loop-at
decreases-loop-at l = length l.chars - l.at
