use Rattle.std.proofs.Common.{◌≡◌, map}
use Rattle.tcl_subst.specs.Report.{elements_onto}
use Rattle.tcl_subst.proofs.report.add_elements.Given as goal

abbrev pub invariant-loop-index : goal.invariant-loop-index
invariant-loop-index l = elements_onto l.values l.array (map (λ e. (e.0.items, e.1.now)) l.index-iterator) ≡ elements_onto l.initial.values l.array l.elements
