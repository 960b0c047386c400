use Rattle.std.proofs.Common.{◌≡◌, ◌++◌}
use Rattle.expect_core.specs.Standing.{as_standing}
use Rattle.expect_core.proofs.standing.StandingList.of.Given as goal

abbrev pub invariant-entries : goal.invariant-entries
invariant-entries l = l.made-inside.list.items ++ as_standing l.groups l.entry-iterator.rest.items ≡ as_standing l.groups l.fn.entries
