use Rattle.std.proofs.Common.{◌≡◌, ℕ, ◌+◌, ◌-◌, ◌≤◌, ◌<◌, ◌++◌, length}
use Rattle.tcl_scripts.specs.Commands.{commands, commands_within}
use Rattle.tcl_scripts.proofs.script.readings.Given as goal

-- at most n commands are left, and more can't be there
abbrev pub invariant-commands : goal.invariant-commands
invariant-commands l = (n : ℕ) × (l.at ≤ length l.source) × (length l.source < n + l.at) × (commands l.source ≡ l.readings.items ++ commands_within n l.source l.at)

abbrev pub decreases-commands : goal.decreases-commands
decreases-commands l = length l.source - l.at
