use Rattle.std.proofs.Common.{◌≡◌, ◌++◌, replicate}
use Rattle.tcl_formats.proofs.formats.push_times.Given as goal

abbrev pub invariant-loop-turn : goal.invariant-loop-turn
invariant-loop-turn l = l.text ≡ l.fn.text ++ replicate l.turn l.byte
