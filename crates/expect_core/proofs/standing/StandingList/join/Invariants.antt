use Rattle.std.proofs.Common.{◌≡◌, [], ◌++◌, drop, length}
use Rattle.expect_core.specs.Standing.{ids_of_each, in_groups, left_by}
use Rattle.expect_core.proofs.standing.StandingList.join.Given as goal

abbrev pub invariant-entries : goal.invariant-entries
invariant-entries l =
    (l.entries ++ in_groups (length l.groups) (left_by [] l.children (drop l.standing-index l.self)) ≡ l.initial.entries ++ in_groups (length l.initial.groups) (left_by [] l.children l.self))
    × (l.groups ++ ids_of_each (left_by [] l.children (drop l.standing-index l.self)) ≡ l.initial.groups ++ ids_of_each (left_by [] l.children l.self))
    × (l.nobody-inside.list.items ≡ [])
