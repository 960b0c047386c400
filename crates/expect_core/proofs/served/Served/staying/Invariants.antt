use Rattle.std.proofs.Common.{◌≡◌, ◌++◌, drop}
use Rattle.std.specs.Prelude.{filter}
use Rattle.expect_core.specs.Standing.{stays}
use Rattle.expect_core.proofs.served.Served.staying.Given as goal

abbrev pub invariant-ids : goal.invariant-ids
invariant-ids l = l.staying ++ filter (stays l.leaving l.children) (drop l.id-index l.self) ≡ filter (stays l.leaving l.children) l.self
