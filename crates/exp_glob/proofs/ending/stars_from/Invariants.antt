use Rattle.std.proofs.Common.{◌≤◌, drop, length}
use Rattle.exp_glob.specs.Endings.{AreStars}
use Rattle.exp_glob.proofs.ending.stars_from.Given as goal

abbrev pub invariant-loop-from : goal.invariant-loop-from
invariant-loop-from l = record {
  within : l.from ≤ length l.elements;
  so_far : AreStars (drop l.from l.elements);
}

abbrev pub decreases-loop-from : goal.decreases-loop-from
decreases-loop-from l = l.from
