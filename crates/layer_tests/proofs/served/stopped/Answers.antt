use Rattle.std.proofs.Common.{ℕ, ◌+◌, length, ap, ◌∙◌}
use Rattle.layer_tests.proofs.Counting.{one_longer}
use Rattle.layer_tests.proofs.served.stopped.Goals as goal

pub loop-preserved : goal.loop-preserved
loop-preserved c = ap length c.in-Ok.ensures.items ∙ one_longer c.loop.clocks.items _ ∙ ap (λ (n : ℕ). n + 1) c.loop.invariant
