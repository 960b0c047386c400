use Rattle.std.proofs.Common.{◌≡◌, ◌++◌, take}
use Rattle.expect_prog.proofs.files.vars_of.Given as goal

abbrev pub invariant-loop-variable : goal.invariant-loop-variable
invariant-loop-variable l = l.all ≡ l.vars ++ take l.variable-index l.row
