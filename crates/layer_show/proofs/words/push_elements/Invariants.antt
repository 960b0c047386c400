use Rattle.std.proofs.Common.{◌≡◌, ◌++◌, drop}
use Rattle.layer_show.specs.Shown.{hex_lines}
use Rattle.layer_show.proofs.words.push_elements.Given as goal

abbrev pub invariant-elements : goal.invariant-elements
invariant-elements l = l.text ++ hex_lines (drop l.element-index l.list) ≡ l.initial.text ++ hex_lines l.list
