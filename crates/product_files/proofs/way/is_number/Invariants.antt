use Rattle.std.proofs.Common.{◌≡◌, drop}
use Rattle.std.specs.Str.{all_ascii_digits}
use Rattle.product_files.proofs.way.is_number.Given as goal

abbrev pub invariant-loop-i : goal.invariant-loop-i
invariant-loop-i l = all_ascii_digits (drop l.i l.bytes) ≡ all_ascii_digits l.bytes
