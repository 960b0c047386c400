use Rattle.std.proofs.Common.{◌≡◌, ◌++◌, drop}
use Rattle.course_texts.specs.Patterns.{elements_text}
use Rattle.course_texts.proofs.patterns.push_elements.Given as goal

abbrev pub invariant-loop-element : goal.invariant-loop-element
invariant-loop-element l = l.text ++ elements_text (drop l.element-index l.elements) ≡ l.initial.text ++ elements_text l.elements
