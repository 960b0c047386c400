use Rattle.std.proofs.Common.{◌≡◌, ◌++◌, drop}
use Rattle.expect_core.specs.Sides.{children_of}
use Rattle.expect_core.proofs.served.ServedGroups.children.Given as goal

abbrev pub invariant-groups : goal.invariant-groups
invariant-groups l = l.places ++ children_of (drop l.ids-index l.self) ≡ children_of l.self
