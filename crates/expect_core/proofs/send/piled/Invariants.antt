use Rattle.std.proofs.Common.{◌≡◌, ◌++◌, length}
use Rattle.expect_core.proofs.send.piled.Given as goal

abbrev pub invariant-actions : goal.invariant-actions
invariant-actions l = l.actions-inside.list.items ++ l.pile ≡ l.fn.actions

abbrev pub decreases-actions : goal.decreases-actions
decreases-actions l = length l.actions-inside.list.items
