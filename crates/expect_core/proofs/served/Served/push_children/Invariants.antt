use Rattle.std.proofs.Common.{◌≡◌, ◌++◌, drop}
use Rattle.expect_core.specs.Sides.{children_in}
use Rattle.expect_core.proofs.served.Served.push_children.Given as goal

abbrev pub invariant-ids : goal.invariant-ids
invariant-ids l = l.places ++ children_in (drop l.id-index l.self) ≡ l.initial.places ++ children_in l.self
