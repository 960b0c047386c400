use Rattle.std.proofs.Common.{◌≡◌, ◌++◌, drop, false}
use Rattle.expect_core.specs.Channels.{lines_after}
use Rattle.expect_core.proofs.reading.plain_lines.Given as goal

abbrev pub invariant-bytes : goal.invariant-bytes
invariant-bytes l = l.lines ++ lines_after l.returned (drop l.byte-index l.bytes) ≡ lines_after false l.bytes
