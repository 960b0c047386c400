use Rattle.std.proofs.Common.{◌≡◌, length}
use Rattle.tcl_results.specs.Setting.{assigned}
use Rattle.tcl_control.specs.Groups.{all_names, values_in}
use Rattle.tcl_control.proofs.groups.assign_more.Given as goal

abbrev pub invariant-loop-rest : goal.invariant-loop-rest
invariant-loop-rest l = assigned (all_names l.rest) (values_in l.rest l.turn) l.vars ≡ assigned (all_names l.pairs) (values_in l.pairs l.turn) l.fn.vars

abbrev pub decreases-loop-rest : goal.decreases-loop-rest
decreases-loop-rest l = length l.rest
