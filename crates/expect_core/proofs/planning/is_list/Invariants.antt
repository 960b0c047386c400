use Rattle.std.proofs.Common.{◌≡◌, drop}
use Rattle.expect_core.specs.Expecting.{is_list}
use Rattle.expect_core.proofs.planning.is_list.Given as goal

abbrev pub invariant-bytes : goal.invariant-bytes
invariant-bytes l = is_list (drop l.b-index l.text) ≡ is_list l.text
