use Rattle.std.proofs.Common.{◌≡◌, None, drop}
use Rattle.script_runs.specs.Progress.{quietest_among}
use Rattle.script_runs.proofs.progress.quietest.Given as goal

abbrev pub invariant-loop-script : goal.invariant-loop-script
invariant-loop-script l = quietest_among l.found (drop l.script-index l.scripts) ≡ quietest_among None l.scripts
