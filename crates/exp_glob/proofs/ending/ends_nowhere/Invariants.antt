use Rattle.std.proofs.Common.{ℕ, ◌≤◌, take, length}
use Rattle.exp_glob.specs.Spans.{Spans}
use Rattle.exp_glob.proofs.ending.ends_nowhere.Given as goal

abbrev pub invariant-run : goal.invariant-run
invariant-run l = record {
  within : l.left ≤ length l.elements;
  inside : l.at ≤ length l.text;
  so_far : (a : ℕ) → Spans l.nocase l.elements l.text a (length l.text) → Spans l.nocase (take l.left l.elements) l.text a l.at;
}

abbrev pub decreases-run : goal.decreases-run
decreases-run l = l.left
