use Rattle.std.proofs.Common.{◌≡◌, ◌||◌, drop}
use Rattle.std.specs.List.{list_any}
use Rattle.tcl_words.specs.Lists.{is_special}
use Rattle.tcl_words.proofs.writing.has_special.Given as goal

abbrev pub invariant-loop-b : goal.invariant-loop-b
invariant-loop-b l = (l.found || list_any is_special (drop l.b-index l.e)) ≡ list_any is_special l.e
