use Rattle.std.proofs.Common.{◌≡◌, ℕ, ◌-◌, ◌<◌, ◌≤◌, None}
use Rattle.exp_glob.specs.Runs.{run_end}
use Rattle.exp_glob.proofs.runs.least_run_by.Given as goal

abbrev pub invariant-places : goal.invariant-places
invariant-places l = record {
  forward : l.from ≤ l.at;
  nowhere : (k : ℕ) → l.from ≤ k → k < l.at → run_end l.nocase l.elements l.text k ≡ None;
}

abbrev pub decreases-places : goal.decreases-places
decreases-places l = l.bound - l.at
