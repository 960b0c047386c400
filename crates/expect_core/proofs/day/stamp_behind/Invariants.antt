use Rattle.std.proofs.Common.{◌≡◌, drop}
use Rattle.expect_core.specs.Times.{no_stamp, stamp_behind}
use Rattle.expect_core.proofs.day.stamp_behind.Given as goal

abbrev pub invariant-words : goal.invariant-words
invariant-words l = stamp_behind l.name l.stamp (drop l.word-index l.words) ≡ stamp_behind l.name no_stamp l.words
