use Rattle.std.proofs.Common.{◌≡◌, ◌++◌}
use Rattle.script_check.specs.Findings.{reported}
use Rattle.script_check.proofs.findings.reported.Given as goal

abbrev pub invariant-loop-sight : goal.invariant-loop-sight
invariant-loop-sight l = l.list.items ++ reported l.names l.sight-iterator.rest.items ≡ reported l.names l.fn.sights.items
