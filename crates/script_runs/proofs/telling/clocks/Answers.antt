use Rattle.std.proofs.Common.{ℕ, ◌+◌, length, ap, ◌∙◌}
use Rattle.script_runs.proofs.Counting.{one_longer}
use Rattle.script_runs.proofs.telling.clocks.Goals as goal

pub loop-worker-preserved : goal.loop-worker-preserved
loop-worker-preserved g c = ap length c.in-Ok.ensures.items ∙ one_longer c.loop-worker.clocks.items _ ∙ ap (λ (n : ℕ). n + 1) c.loop-worker.invariant
