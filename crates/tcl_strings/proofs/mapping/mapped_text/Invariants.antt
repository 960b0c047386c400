use Rattle.std.proofs.Common.{◌≡◌, ◌++◌, false, length}
use Rattle.tcl_subst.specs.Faults.{is_too_long}
use Rattle.tcl_strings.specs.Mapping.{mapped_from}
use Rattle.tcl_strings.proofs.mapping.mapped_text.Given as goal

abbrev pub invariant-loop-rest : goal.invariant-loop-rest
invariant-loop-rest l = record {
  same : l.made ++ mapped_from l.nocase l.elements 0 l.rest ≡ mapped_from l.nocase l.elements 0 l.text;
  short : is_too_long (length l.made) ≡ false;
}

abbrev pub decreases-loop-rest : goal.decreases-loop-rest
decreases-loop-rest l = length l.rest
