use Rattle.std.proofs.Common.{◌≡◌, take}
use Rattle.exp_glob.proofs.element.Elements.copied.Given as goal

abbrev pub invariant-elements : goal.invariant-elements
invariant-elements l = l.made ≡ take l.element-index l.self
