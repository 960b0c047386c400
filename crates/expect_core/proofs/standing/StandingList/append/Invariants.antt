use Rattle.std.proofs.Common.{◌≡◌, ◌++◌}
use Rattle.expect_core.proofs.standing.StandingList.append.Given as goal

abbrev pub invariant-entries : goal.invariant-entries
invariant-entries l = l.self-inside.list.items ++ l.standing-iterator.rest.items ≡ l.fn.self ++ l.fn.more
