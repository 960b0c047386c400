use Rattle.std.proofs.Common.{◌≡◌, take}
use Rattle.tcl_lists.specs.Splitting.{bytes_alone}
use Rattle.tcl_lists.proofs.splitting.bytes_alone.Given as goal

abbrev pub invariant-loop-b : goal.invariant-loop-b
invariant-loop-b l = l.packed ≡ bytes_alone (take l.b-index l.text)
