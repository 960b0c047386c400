use Rattle.std.proofs.Common.{◌≡◌, ◌+◌, length}
use Rattle.tcl_results.specs.Switches.{nothing, flags_from}
use Rattle.tcl_results.proofs.switches.flags_from.Given as goal

abbrev pub invariant-loop-rest : goal.invariant-loop-rest
invariant-loop-rest l = record {
  same : flags_from l.allowed l.tail l.given l.at l.rest ≡ flags_from l.allowed l.tail nothing 0 l.args;
  count : l.at + length l.rest ≡ length l.args;
}

abbrev pub decreases-loop-rest : goal.decreases-loop-rest
decreases-loop-rest l = length l.rest
