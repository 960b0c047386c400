use Rattle.std.proofs.Common.{◌≡◌, map, take}
use Rattle.expect_core.proofs.dialogue.Dialogue.sent.Given as goal

abbrev pub invariant-loop-child : goal.invariant-loop-child
invariant-loop-child l = l.counts.items ≡ map (λ child. child.sent) (take l.child-index l.self.own.children)
