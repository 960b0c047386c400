use Rattle.std.proofs.Common.{◌≡◌, ◌+◌, ◌≤◌, length}
use Rattle.tcl_patterns.specs.declared.parens.PatternState.TheVariants as place
use Rattle.tcl_patterns.specs.Parens.{groups_from}
use Rattle.tcl_patterns.proofs.parens.group_count.Given as goal

abbrev pub invariant-loop-rest : goal.invariant-loop-rest
invariant-loop-rest l = record {
  same : l.count + groups_from l.place l.rest ≡ groups_from place.Outside l.pattern;
  within : l.count + length l.rest ≤ length l.pattern;
}

abbrev pub decreases-loop-rest : goal.decreases-loop-rest
decreases-loop-rest l = length l.rest
