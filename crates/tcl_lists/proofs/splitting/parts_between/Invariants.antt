use Rattle.std.proofs.Common.{◌≡◌, ◌++◌, length}
use Rattle.std.specs.List.{slice_split}
use Rattle.tcl_results.specs.Sets.{is_one_of}
use Rattle.tcl_lists.proofs.splitting.parts_between.Given as goal

abbrev pub invariant-loop-at : goal.invariant-loop-at
invariant-loop-at l = l.packed ++ slice_split (is_one_of l.seps) l.rest ≡ slice_split (is_one_of l.seps) l.text

abbrev pub decreases-loop-at : goal.decreases-loop-at
decreases-loop-at l = length l.rest
