use Rattle.std.proofs.Common.{◌≡◌, ◌+◌, ◌-◌, ◌≤◌, length, drop}
use Rattle.exp_match.specs.Scan.{accepts, outermost}
use Rattle.exp_match.proofs.grammar.accepts.Given as goal

abbrev pub invariant-loop-at : goal.invariant-loop-at
invariant-loop-at l = (l.at ≤ length l.chars) × (l.nesting.opened + l.nesting.left ≡ 50) × (accepts (drop l.at l.chars) l.nesting ≡ accepts l.chars outermost)

abbrev pub decreases-loop-at : goal.decreases-loop-at
decreases-loop-at l = length l.chars - l.at
