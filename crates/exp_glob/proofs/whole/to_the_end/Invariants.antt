use Rattle.std.proofs.Common.{◌≡◌, ◌++◌, map}
use Rattle.exp_glob.specs.Whole.{plain}
use Rattle.exp_glob.proofs.whole.to_the_end.Given as goal

abbrev pub invariant-loop-element : goal.invariant-loop-element
invariant-loop-element l = l.made ++ map plain l.element-iterator.rest.items ≡ map plain l.fn.elements
