use Rattle.std.proofs.Common.{◌≡◌, ◌++◌, drop}
use Rattle.course_texts.specs.Nearest.{exact_elements}
use Rattle.course_texts.proofs.nearest.exact_elements.Given as goal

abbrev pub invariant-loop-byte : goal.invariant-loop-byte
invariant-loop-byte l = l.elements ++ exact_elements (drop l.byte-index l.text) ≡ exact_elements l.text
