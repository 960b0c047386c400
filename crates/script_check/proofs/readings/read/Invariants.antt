use Rattle.std.proofs.Common.{◌≡◌, ◌++◌, length}
use Rattle.script_check.specs.Readings.{readings}
use Rattle.script_check.proofs.readings.read.Given as goal

abbrev pub invariant-commands : goal.invariant-commands
invariant-commands l = l.list.items ++ readings l.end l.rest ≡ readings l.end l.text

abbrev pub decreases-commands : goal.decreases-commands
decreases-commands l = length l.rest
