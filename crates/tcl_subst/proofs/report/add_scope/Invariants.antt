use Rattle.std.proofs.Common.{◌≡◌, map}
use Rattle.tcl_subst.specs.Report.{scope_onto}
use Rattle.tcl_subst.proofs.report.add_scope.Given as goal

abbrev pub invariant-loop-name : goal.invariant-loop-name
invariant-loop-name l = scope_onto l.values (map (λ e. (e.0.items, e.1.now)) l.name-iterator) ≡ scope_onto l.initial.values l.scope
