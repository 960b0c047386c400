use Rattle.std.proofs.Common.{◌≡◌, ◌≤◌, ◌-◌, take, drop, max}
use Rattle.tcl_words.proofs.packed.Packed.part.Given as goal

abbrev pub invariant-loop-at : goal.invariant-loop-at
invariant-loop-at l = (l.from ≤ l.at) × (l.at ≤ max l.from l.to) × (l.part ≡ drop l.from (take l.at l.self))

abbrev pub decreases-loop-at : goal.decreases-loop-at
decreases-loop-at l = l.to - l.at
