use Rattle.std.proofs.Common.{◌≡◌, length}
use Rattle.script_check.specs.Expects.{is_list, is_listing}
use Rattle.script_check.proofs.expects.is_listing.Given as goal

abbrev pub invariant-loop-rest : goal.invariant-loop-rest
invariant-loop-rest l = is_list l.rest ≡ is_listing l.word.value

abbrev pub decreases-loop-rest : goal.decreases-loop-rest
decreases-loop-rest l = length l.rest
