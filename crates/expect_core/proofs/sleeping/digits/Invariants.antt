use Rattle.std.proofs.Common.{◌≡◌, ◌≤◌, drop}
use Rattle.std.specs.Prelude.{option_map}
use Rattle.expect_core.specs.Sleeping.{digits_behind, kept}
use Rattle.expect_core.proofs.sleeping.digits.Given as goal

-- the digits so far, and those behind them
abbrev pub invariant-loop-byte : goal.invariant-loop-byte
invariant-loop-byte l = record {
  most : l.number ≤ 9000000000000001;
  number : option_map kept (digits_behind l.number (drop l.byte-index l.text)) ≡ option_map kept (digits_behind 0 l.text);
}
