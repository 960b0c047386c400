use Rattle.std.proofs.Common.{◌≡◌, ◌++◌, map}
use Rattle.tcl_subst.proofs.report.listed_values.Given as goal

abbrev pub invariant-loop-name : goal.invariant-loop-name
invariant-loop-name l = l.list.items ++ map (λ e. (e.0.items, e.1)) l.name-iterator ≡ l.fn.values
