use Rattle.std.proofs.Common.{◌≡◌, drop}
use Rattle.expect_core.specs.Sides.{ids_named}
use Rattle.expect_core.proofs.planning.ids_named.Given as goal

abbrev pub invariant-names : goal.invariant-names
invariant-names l = ids_named l.ids (drop l.name-index l.names) l.own ≡ ids_named l.initial.ids l.names l.own
