use Rattle.std.proofs.Common.{◌≡◌, drop}
use Rattle.std.specs.Prelude.{bytes_eq}
use Rattle.std.specs.List.{list_any}
use Rattle.tcl_expr.proofs.items.is_element.Given as goal

abbrev pub invariant-loop-index : goal.invariant-loop-index
invariant-loop-index l = list_any (bytes_eq l.text) (drop l.index l.elements) ≡ list_any (bytes_eq l.text) l.elements
