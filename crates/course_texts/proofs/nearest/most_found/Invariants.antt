use Rattle.std.proofs.Common.{◌≡◌, ◌≤◌, length}
use Rattle.course_texts.specs.Nearest.{most_found}
use Rattle.course_texts.proofs.nearest.most_found.Given as goal

abbrev pub invariant-loop-count : goal.invariant-loop-count
invariant-loop-count l = record {
  within : l.count ≤ length l.elements;
  same : most_found l.anchored l.elements l.nocase l.bytes l.count ≡ most_found l.anchored l.elements l.nocase l.bytes (length l.elements);
}

abbrev pub decreases-loop-count : goal.decreases-loop-count
decreases-loop-count l = l.count
