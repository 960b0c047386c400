use Rattle.std.proofs.Common.{◌≡◌, ℕ, ◌+◌, ◌≤◌, length, None}
use Rattle.exp_glob.specs.Runs.{run_end}
use Rattle.exp_glob.proofs.runs.greatest_run_by.Given as goal

abbrev pub invariant-loop-bound : goal.invariant-loop-bound
invariant-loop-bound l = (l.bound ≤ length l.text + 1) × ((k : ℕ) → l.bound ≤ k → k ≤ length l.text → run_end l.nocase l.elements l.text k ≡ None)

abbrev pub decreases-loop-bound : goal.decreases-loop-bound
decreases-loop-bound l = l.bound
