use Rattle.std.proofs.Common.{◌≡◌, ◌++◌, false, length}
use Rattle.tcl_subst.specs.Faults.{is_too_long}
use Rattle.tcl_patterns.specs.Replacing.{replacement}
use Rattle.tcl_patterns.proofs.replacing.push_replacement.Given as goal

abbrev pub invariant-loop-rest : goal.invariant-loop-rest
invariant-loop-rest l = record {
  same : l.made ++ replacement l.text l.spans l.rest ≡ l.fn.made ++ replacement l.text l.spans l.by;
  short : is_too_long (length l.made) ≡ false;
}

abbrev pub decreases-loop-rest : goal.decreases-loop-rest
decreases-loop-rest l = length l.rest
