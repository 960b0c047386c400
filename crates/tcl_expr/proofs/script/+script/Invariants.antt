use Rattle.std.proofs.Common.{◌≡◌, drop}
use Rattle.tcl_words.specs.Pieces.{parts_view}
use Rattle.tcl_expr.specs.Script.{has_script}
use Rattle.tcl_expr.proofs.script.+script.Given as goal

abbrev pub invariant-has_script-loop-part : goal.invariant-has_script-loop-part
invariant-has_script-loop-part l = has_script (parts_view l.parts) ≡ has_script (parts_view (drop l.part-index l.parts))
