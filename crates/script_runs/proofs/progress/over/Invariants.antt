use Rattle.std.proofs.Common.{◌≡◌, ◌≤◌, ◌+◌, drop}
use Rattle.script_runs.specs.Progress.{over_among}
use Rattle.script_runs.proofs.progress.over.Given as goal

abbrev pub invariant-loop-script : goal.invariant-loop-script
invariant-loop-script l = record {
  same : l.count + over_among (drop l.script-index l.scripts) ≡ over_among l.scripts;
  low : l.count ≤ l.script-index;
}
