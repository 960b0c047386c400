use Rattle.std.proofs.Common.{◌≡◌, ◌++◌, length}
use Rattle.expect_core.proofs.kept.Kept.add_seen.Given as goal

-- the bytes so far, and what is seen of the output that is left
abbrev pub invariant-runs : goal.invariant-runs
invariant-runs l =
    (l.self-inside.buffer.ring.items ++ l.seen ≡ l.initial.self-inside.buffer.ring.items ++ l.fn.seen)
    × (l.self-inside.buffer.size ≡ l.initial.self-inside.buffer.size)

abbrev pub decreases-runs : goal.decreases-runs
decreases-runs l = length l.seen
