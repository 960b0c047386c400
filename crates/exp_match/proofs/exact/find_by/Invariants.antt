use Rattle.std.proofs.Common.{ℕ, ◌+◌, ◌-◌, ◌<◌, ◌≤◌, true, length}
use Rattle.exp_match.specs.Exact.{StandsAt}
use Rattle.exp_match.proofs.exact.find_by.Given as goal

abbrev pub invariant-loop-n : goal.invariant-loop-n
invariant-loop-n l = (l.from + l.rare ≤ length l.bytes) × ((k : ℕ) → k < l.from → ¬ StandsAt true l.text l.bytes k)

abbrev pub decreases-loop-n : goal.decreases-loop-n
decreases-loop-n l = length l.bytes - l.from
