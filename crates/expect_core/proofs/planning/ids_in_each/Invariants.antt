use Rattle.std.proofs.Common.{◌≡◌, drop}
use Rattle.expect_core.specs.Sides.{ids_in_each}
use Rattle.expect_core.proofs.planning.ids_in_each.Given as goal

abbrev pub invariant-words : goal.invariant-words
invariant-words l = ids_in_each l.groups (drop l.word-index l.words) l.own ≡ ids_in_each l.initial.groups l.words l.own
