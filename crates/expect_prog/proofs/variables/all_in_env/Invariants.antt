use Rattle.std.proofs.Common.{◌≡◌, ◌++◌, drop, map}
use Rattle.expect_prog.specs.Variables.{in_env}
use Rattle.expect_prog.proofs.variables.all_in_env.Given as goal

abbrev pub invariant-loop-variable : goal.invariant-loop-variable
invariant-loop-variable l = l.vars ++ map in_env (drop l.variable-index l.environment) ≡ map in_env l.environment
