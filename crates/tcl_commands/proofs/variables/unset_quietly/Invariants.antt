use Rattle.std.proofs.Common.{◌≡◌, length}
use Rattle.tcl_results.specs.Setting.{unset_quietly}
use Rattle.tcl_commands.proofs.variables.unset_quietly.Given as goal

abbrev pub invariant-loop-names : goal.invariant-loop-names
invariant-loop-names l = unset_quietly l.names l.vars ≡ unset_quietly l.args l.fn.vars

abbrev pub decreases-loop-names : goal.decreases-loop-names
decreases-loop-names l = length l.names
