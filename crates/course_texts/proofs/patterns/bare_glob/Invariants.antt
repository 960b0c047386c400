use Rattle.std.proofs.Common.{◌≡◌, ◌++◌, drop}
use Rattle.course_texts.specs.Patterns.{bare_elements, bare_glob}
use Rattle.course_texts.proofs.patterns.bare_glob.Given as goal

abbrev pub invariant-loop-element : goal.invariant-loop-element
invariant-loop-element l = l.text ++ bare_elements (drop l.element-index l.elements) ≡ bare_glob l.anchored l.elements
