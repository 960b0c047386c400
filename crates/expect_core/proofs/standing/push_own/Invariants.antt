use Rattle.std.proofs.Common.{◌≡◌, ◌++◌}
use Rattle.expect_core.specs.Standing.{own_entries}
use Rattle.expect_core.proofs.standing.push_own.Given as goal

abbrev pub invariant-entries : goal.invariant-entries
invariant-entries l = l.all ++ own_entries l.count l.entry-iterator.rest.items ≡ l.initial.all ++ own_entries l.count l.fn.entries
