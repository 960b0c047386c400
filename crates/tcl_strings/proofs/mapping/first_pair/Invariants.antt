use Rattle.std.proofs.Common.{◌≡◌, ◌*◌, drop}
use Rattle.tcl_strings.specs.Mapping.{first_pair}
use Rattle.tcl_strings.proofs.mapping.first_pair.Given as goal

abbrev pub invariant-loop-pair : goal.invariant-loop-pair
invariant-loop-pair l = first_pair l.nocase (drop (2 * l.pair) l.elements) l.text ≡ first_pair l.nocase l.elements l.text
