use Rattle.std.proofs.Common.{◌≡◌, ◌++◌, length}
use Rattle.tty.proofs.output.put_seen.Given as goal

-- what is seen so far, and what is seen of the bytes that are left
abbrev pub invariant-runs : goal.invariant-runs
invariant-runs l = l.out.items ++ l.seen ≡ l.initial.out.items ++ l.fn.seen

abbrev pub decreases-runs : goal.decreases-runs
decreases-runs l = length l.seen
