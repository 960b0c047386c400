use Rattle.std.proofs.Common.{◌≡◌, drop}
use Rattle.expect_core.specs.Sides.{still_open}
use Rattle.expect_core.proofs.ids.all_open.Given as goal

abbrev pub invariant-places : goal.invariant-places
invariant-places l = still_open (drop l.i-index l.places) l.own ≡ still_open l.places l.own
