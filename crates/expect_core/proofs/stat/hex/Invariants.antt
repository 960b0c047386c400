use Rattle.std.proofs.Common.{◌≡◌, drop}
use Rattle.expect_core.specs.Tools.{hex_behind}
use Rattle.expect_core.proofs.stat.hex.Given as goal

-- the number so far, and the digits behind it
abbrev pub invariant-digits : goal.invariant-digits
invariant-digits l = hex_behind l.number (drop l.byte-index l.text) ≡ hex_behind 0 l.text
