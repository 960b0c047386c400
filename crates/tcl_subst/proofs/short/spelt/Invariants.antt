use Rattle.std.proofs.Common.{◌≡◌, ◌<◌, ◌^◌, drop}
use Rattle.std.specs.Slice.Scan.{big_endian}
use Rattle.tcl_subst.proofs.short.spelt.Given as goal

abbrev pub invariant-loop-byte : goal.invariant-loop-byte
invariant-loop-byte l = (big_endian l.number (drop l.byte-index l.bytes) ≡ big_endian 0 l.bytes) × (l.number < 256 ^ l.byte-index)
