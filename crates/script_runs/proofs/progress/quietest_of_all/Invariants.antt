use Rattle.std.proofs.Common.{◌≡◌, None, drop}
use Rattle.script_runs.specs.Progress.{quietest}
use Rattle.script_runs.proofs.progress.quietest_of_all.Given as goal

abbrev pub invariant-loop-script : goal.invariant-loop-script
invariant-loop-script l = quietest l.found (drop l.script-index l.scripts) ≡ quietest None l.scripts
