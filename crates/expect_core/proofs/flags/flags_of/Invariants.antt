use Rattle.std.proofs.Common.{◌≡◌, ◌≤◌, drop, length}
use Rattle.expect_core.specs.Flags.{flags_from}
use Rattle.expect_core.proofs.flags.flags_of.Given as goal

abbrev pub invariant-words : goal.invariant-words
invariant-words l = (flags_from l.name l.takes l.due l.flags (drop l.at l.words) ≡ flags_from l.initial.name l.initial.takes l.initial.due l.initial.flags l.initial.words) × (l.at ≤ length l.words)
