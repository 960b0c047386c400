use Rattle.std.proofs.Common.{◌≡◌, ◌++◌, drop}
use Rattle.expect_core.specs.Owned.{bytes_of}
use Rattle.expect_core.specs.Expecting.{groups_from}
use Rattle.expect_core.proofs.own.Own.push_groups.Given as goal

abbrev pub invariant-groups : goal.invariant-groups
invariant-groups l = (l.stores ++ groups_from l.indices (bytes_of l.i l.self) l.group (drop l.group l.spans) ≡ l.initial.stores ++ groups_from l.initial.indices (bytes_of l.initial.i l.initial.self) 0 l.initial.spans) × (l.self ≡ l.initial.self)
