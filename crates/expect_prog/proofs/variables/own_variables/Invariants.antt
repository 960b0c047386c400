use Rattle.std.proofs.Common.{◌≡◌, ◌++◌, drop}
use Rattle.expect_prog.specs.Variables.{own_variables}
use Rattle.expect_prog.proofs.variables.own_variables.Given as goal

abbrev pub invariant-loop-entry : goal.invariant-loop-entry
invariant-loop-entry l = l.variables ++ own_variables (drop l.entry-index l.entries) ≡ own_variables l.entries
