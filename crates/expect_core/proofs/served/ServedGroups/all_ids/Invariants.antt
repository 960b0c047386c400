use Rattle.std.proofs.Common.{◌≡◌, ◌++◌, drop}
use Rattle.expect_core.specs.Standing.{all_ids}
use Rattle.expect_core.proofs.served.ServedGroups.all_ids.Given as goal

abbrev pub invariant-groups : goal.invariant-groups
invariant-groups l = l.all ++ all_ids (drop l.ids-index l.self) ≡ all_ids l.self
