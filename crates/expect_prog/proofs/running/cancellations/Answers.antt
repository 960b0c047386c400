use Rattle.std.proofs.Common.{ℕ, ◌+◌, length, ap, ◌∙◌}
use Rattle.script_runs.proofs.Counting.{one_longer}
use Rattle.expect_prog.proofs.running.cancellations.Goals as goal

pub loop-at-preserved : goal.loop-at-preserved
loop-at-preserved g c = ap length c.in-Ok.ensures.items ∙ one_longer c.loop-at.cancellations.items _ ∙ ap (λ (n : ℕ). n + 1) c.loop-at.invariant
