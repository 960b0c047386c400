use Rattle.std.proofs.Common.{◌≡◌, ◌++◌}
use Rattle.script_check.specs.Expects.{gathered}
use Rattle.script_check.proofs.expects.gather.Given as goal

abbrev pub invariant-loop-reading : goal.invariant-loop-reading
invariant-loop-reading l = (l.out.items ++ (gathered l.reading-iterator.rest.items).0 ≡ l.fn.out.items ++ (gathered l.fn.readings.items).0) × ((gathered l.reading-iterator.rest.items).1 ≡ (gathered l.fn.readings.items).1)
