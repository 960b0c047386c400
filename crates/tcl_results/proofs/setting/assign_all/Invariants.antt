use Rattle.std.proofs.Common.{◌≡◌, length, drop}
use Rattle.tcl_results.specs.Setting.{assigned}
use Rattle.tcl_results.proofs.setting.assign_all.Given as goal

abbrev pub invariant-loop-rest : goal.invariant-loop-rest
invariant-loop-rest l = assigned l.rest (drop l.at l.elements) l.vars ≡ assigned l.names (drop l.from l.elements) l.fn.vars

abbrev pub decreases-loop-rest : goal.decreases-loop-rest
decreases-loop-rest l = length l.rest
