use Rattle.std.proofs.Common.{◌≡◌, ◌++◌, ◌+◌, ◌*◌, length}
use Rattle.std.specs.List.{flat_map}
use Rattle.script_check.specs.Sights.{reading_sights, sights}
use Rattle.script_check.proofs.sights.+see.Given as goal

abbrev pub decreases-see_all : goal.decreases-see_all
decreases-see_all l = 4 * l.depth + 1

abbrev pub decreases-see_one : goal.decreases-see_one
decreases-see_one l = 4 * l.depth + 2

abbrev pub decreases-see_script : goal.decreases-see_script
decreases-see_script l = 4 * l.depth + 3

abbrev pub decreases-sights : goal.decreases-sights
decreases-sights l = 4 * l.depth

abbrev pub invariant-see_all-loop-rest : goal.invariant-see_all-loop-rest
invariant-see_all-loop-rest l = l.out.items ++ flat_map (sights l.depth l.source) l.rest ≡ l.fn.out.items ++ flat_map (sights l.depth l.source) l.spans

abbrev pub decreases-see_all-loop-rest : goal.decreases-see_all-loop-rest
decreases-see_all-loop-rest l = length l.rest

abbrev pub invariant-see_script-loop-reading : goal.invariant-see_script-loop-reading
invariant-see_script-loop-reading l = l.out.items ++ flat_map (reading_sights (sights l.depth l.source) l.source) l.reading-iterator.rest.items ≡ l.fn.out.items ++ flat_map (reading_sights (sights l.depth l.source) l.source) l.fn.read.items
