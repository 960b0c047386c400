use Rattle.std.proofs.Common.{◌≡◌, length}
use Rattle.tcl_commands.specs.Plain.{global}
use Rattle.tcl_commands.proofs.variables.global.Given as goal

abbrev pub invariant-loop-names : goal.invariant-loop-names
invariant-loop-names l = global l.names l.vars ≡ global l.args l.fn.vars

abbrev pub decreases-loop-names : goal.decreases-loop-names
decreases-loop-names l = length l.names
