use Rattle.std.proofs.Common.{◌≡◌, ◌++◌, drop}
use Rattle.std.specs.List.{flat_map}
use Rattle.expect_prog.specs.Variables.{if_named}
use Rattle.expect_prog.proofs.variables.push_named.Given as goal

abbrev pub invariant-loop-variable : goal.invariant-loop-variable
invariant-loop-variable l = l.variables ++ flat_map (if_named l.name) (drop l.variable-index l.own) ≡ l.initial.variables ++ flat_map (if_named l.name) l.own
