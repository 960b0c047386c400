use Rattle.std.proofs.Common.{◌≡◌, ◌++◌}
use Rattle.expect_core.specs.Standing.{left_by}
use Rattle.expect_core.proofs.standing.StandingList.left_by.Given as goal

abbrev pub invariant-entries : goal.invariant-entries
invariant-entries l = l.left ++ left_by l.leaving l.children l.standing-iterator.rest.items ≡ left_by l.leaving l.children l.fn.self
