use Rattle.std.proofs.Common.{◌≡◌, ◌-◌, ◌≤◌, length, drop}
use Rattle.exp_glob.specs.Spans.{class_has}
use Rattle.exp_glob.proofs.matching.class_has.Given as goal

abbrev pub invariant-loop-at : goal.invariant-loop-at
invariant-loop-at l = (l.at ≤ length l.members) × (class_has (drop l.at l.members) l.byte ≡ class_has l.members l.byte)

abbrev pub decreases-loop-at : goal.decreases-loop-at
decreases-loop-at l = length l.members - l.at
