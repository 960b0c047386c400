use Rattle.std.proofs.Common.{◌≡◌, ◌<◌, ℕ, false, take, get_or}
use Rattle.tcl_results.specs.Sets.{is_one_of}
use Rattle.tcl_results.proofs.sets.flags_of.Given as goal

abbrev pub invariant-loop-i : goal.invariant-loop-i
invariant-loop-i l = (b : ℕ) → b < 256 → get_or l.flags b false ≡ is_one_of (take l.i l.bytes) b
