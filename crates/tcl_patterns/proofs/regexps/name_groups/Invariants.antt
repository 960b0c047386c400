use Rattle.std.proofs.Common.{◌≡◌, ◌+◌, length}
use Rattle.tcl_patterns.specs.Regexps.{named}
use Rattle.tcl_patterns.specs.Shown.{shown}
use Rattle.tcl_patterns.proofs.regexps.name_groups.Given as goal

abbrev pub invariant-loop-rest : goal.invariant-loop-rest
invariant-loop-rest l = record {
  same : named l.fn.answer (shown l.indexed l.text) l.spans l.n l.rest l.vars ≡ named l.fn.answer (shown l.indexed l.text) l.spans 0 l.names l.fn.vars;
  count : l.n + length l.rest ≡ length l.names;
}

abbrev pub decreases-loop-rest : goal.decreases-loop-rest
decreases-loop-rest l = length l.rest
