use Rattle.std.proofs.Common.{◌≡◌, false, length, take}
use Rattle.tcl_subst.specs.Faults.{is_too_long}
use Rattle.tcl_lists.specs.Splitting.{joined_by}
use Rattle.tcl_lists.proofs.splitting.joined_by.Given as goal

abbrev pub invariant-loop-at : goal.invariant-loop-at
invariant-loop-at l = record {
  joined : l.text ≡ joined_by l.between (take l.at l.elements);
  short : is_too_long (length l.text) ≡ false;
}
