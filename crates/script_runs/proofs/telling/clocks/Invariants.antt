use Rattle.std.proofs.Common.{◌≡◌, length}
use Rattle.script_runs.proofs.telling.clocks.Given as goal

abbrev pub invariant-loop-worker : goal.invariant-loop-worker
invariant-loop-worker g l = length l.clocks.items ≡ l.worker
