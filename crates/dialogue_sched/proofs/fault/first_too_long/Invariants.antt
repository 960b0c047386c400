use Rattle.std.proofs.Common.{◌≡◌, ◌+◌, drop}
use Rattle.dialogue_sched.specs.Hall.{too_long}
use Rattle.dialogue_sched.proofs.fault.first_too_long.Given as goal

abbrev pub invariant-loop-i : goal.invariant-loop-i
invariant-loop-i l = too_long (l.i + 1) (drop l.i l.scripts) ≡ too_long 1 l.scripts
