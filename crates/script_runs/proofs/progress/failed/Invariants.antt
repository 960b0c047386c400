use Rattle.std.proofs.Common.{◌≡◌, ◌≤◌, ◌+◌, drop}
use Rattle.script_runs.specs.Progress.{failed_among}
use Rattle.script_runs.proofs.progress.failed.Given as goal

abbrev pub invariant-loop-script : goal.invariant-loop-script
invariant-loop-script l = record {
  same : l.count + failed_among (drop l.script-index l.scripts) ≡ failed_among l.scripts;
  low : l.count ≤ l.script-index;
}
